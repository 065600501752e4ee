-- A `&` to a slot that has a value is one to the value. Assumes `Logic`.
use Prim.Native.Nat.{ℕ}
use seplogic.Ra.Ura.{Ura}
use base.Fraction.{full_share}
use types.Logic.{Logic}
use denote.RattleType.{RattleType}
use denote.RawPtr.{block_ptr}
use denote.Memory.{part_at, part_of}
use denote.Param.Laws.{Laws}
use denote.Sharing.{ShrLaws}
use denote.SharingLaws.{nothing_shr_laws}
use denote.Struct.Lending.{Lends, Lends-nothing, Lends-lies, lent_at_shr_laws}
use Rattle.std.specs.Prelude.{Option, Some, None}
use Rattle.burst.specs.contracts.slot.Slot as C
use Rattle.burst.specs.contracts.slot.Slot.TheInside as I
use Rattle.burst.proofs.slot.Slot.TheInside.TheLaws as IL
use Rattle.burst.proofs.slot.Slot.TheLaw.Statement.{statement}

module _ (U : RattleType) (L : Laws U) where
  lent_laws : (d : Option U.Denot) (b o : ℕ) → ShrLaws ((C.the_written U).shr_at d b o)
  lent_laws None b o = nothing_shr_laws
  lent_laws (Some u) b o = lent_at_shr_laws (I.the_row U) (IL.the_row_laws U L).shr_laws (block_ptr b o) (record { bits = u })

  lends : {M : Type 1} {𝓤 : Ura M} (𝓛 : Logic 𝓤) (d : Option U.Denot) (b o : ℕ) → Lends 𝓛 (part_at (C.the_written U) full_share d b o) ((C.the_written U).shr_at d b o) (C.the_written U).lives
  unfolding part_of
  lends 𝓛 None b o = Lends-nothing 𝓛 (part_at (C.the_written U) full_share None b o) (C.the_written U).lives
  lends 𝓛 (Some u) b o = Lends-lies 𝓛 (I.the_row U) (I.the_row U).lives (block_ptr b o) (record { bits = u }) ((IL.the_row_laws U L).shares 𝓛 (record { bits = u }))

pub shares : (U : RattleType) (L : Laws U) → statement U L
shares U L = record {
  shr_laws = lent_laws U L;
  shares = λ M 𝓤 𝓛 d κ ts b o. lends U L 𝓛 d b o κ ts;
}
