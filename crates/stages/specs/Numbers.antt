-- The buffers that an item on the rings of a run carries.
use Rattle.std.specs.Prelude.{ℕ, List, []}
use Rattle.mbuf.specs.Chain.{numbers_of}
use Rattle.stages_laws.specs.declared.run.Run.{Ghosts}
use Rattle.stages.specs.declared.threads.item.RingItem.{RingItem}
use Rattle.stages.specs.declared.threads.item.RingItem.TheVariants.{Free, Before, After, Mark}

abbrev pub item_numbers : {J : Type 0} {G : Ghosts J} → RingItem J G → List ℕ
item_numbers (Free x) = numbers_of x.chain
item_numbers (Before x) = numbers_of x.chain
item_numbers (After x) = numbers_of x.chain
item_numbers Mark = []
