use Rattle.std.proofs.Common.{◌≡◌, length}
use Rattle.ringcore.specs.Opening.{AreGiven}
use Rattle.ringcore.proofs.opening.given_members.Given as goal

abbrev pub invariant-loop-actor : goal.invariant-loop-actor
invariant-loop-actor l = (length l.members.items ≡ l.actor) × AreGiven l.gifts l.members.items
