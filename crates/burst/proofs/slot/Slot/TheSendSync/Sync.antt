-- Threads may share a slot as they may share its value.
use Prim.Native.Nat.{ℕ}
use base.Fml.{Lft}
use base.Shift.{Keyless}
use denote.RattleType.{RattleType}
use denote.Param.Send.{IsSync}
use Rattle.std.specs.Prelude.{Option, Some, None}
use Rattle.burst.specs.contracts.slot.Slot.{the_row}

module _ (U : RattleType) (s : IsSync U) where
  lent : (d : Option U.Denot) (b o : ℕ) (κ : Lft) → Keyless ((the_row U).shr_at d b o κ)
  lent None b o κ = tt
  lent (Some u) b o κ = (tt, ((s.shared u b _ κ, tt), λ _. tt))

pub sync : (U : RattleType) → IsSync U → IsSync (the_row U)
sync U s = record { shared = lent U s }
