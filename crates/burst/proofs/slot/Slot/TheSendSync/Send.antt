-- A slot may go to another thread as its value may.
use mir.Val.{Val}
use base.Shift.{Keyless}
use denote.RattleType.{RattleType}
use denote.Param.Send.{IsSend, sendable}
use Rattle.std.specs.Prelude.{List, Option, Some, None}
use Rattle.burst.specs.Slot.{owned}
use Rattle.burst.specs.contracts.slot.Slot.{the_row}
use Rattle.burst.specs.contracts.slot.Slot.TheInside as I

module _ (U : RattleType) (s : IsSend U) where
  inside : IsSend (I.the_row U)
  inside = search sendable

  alone : (d : Option U.Denot) (vs : List Val) → Keyless (owned (λ u. (I.the_row U).own_val (record { bits = u }) vs) d)
  alone None vs = tt
  alone (Some u) vs = inside.owned (record { bits = u }) vs

pub send : (U : RattleType) → IsSend U → IsSend (the_row U)
send U s = record { owned = λ d vs. ((λ _. tt), alone U s d vs); leaving = λ k d w. tt }
