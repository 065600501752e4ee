use Rattle.std.proofs.Common.{◌≡◌, take, Some}
use Rattle.ringcore.specs.Entries.{claimed}
use Rattle.ringcore.proofs.places.mark_each.Given as goal

abbrev pub invariant-loop-k : goal.invariant-loop-k
invariant-loop-k l =
    claimed l.actor l.initial.places (take l.k l.numbers) ≡ Some l.places
