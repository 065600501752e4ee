-- What C owns through the address of a handle: the object and the right to free its memory. At null there is no object
use base.Fml.{Fml, feq}
use denote.RattleType.{RattleType}
use denote.RawPtr.{Ptr, block_ptr, null_ptr}
use Rattle.std.specs.declared.option.Option.TheVariants.{None}
use Rattle.std.specs.declared.alloc.Global.{Global}
use Rattle.std.specs.contracts.impls.GlobalAllocator.TheImpl.{ghosts}
use Rattle.std.specs.Box.Ownership.{box_owns}
use Rattle.std.specs.contracts.option.Option as option

abbrev pub held : (O : RattleType) → Global → Ptr → (option.the_row O).Denot → Fml
held O a null_ptr x = feq (option.the_row O).Denot x None
held O a (block_ptr b o) x = box_owns (ghosts.dealloc_token a) (option.the_row O) (block_ptr b o) x
