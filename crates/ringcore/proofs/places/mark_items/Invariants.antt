use Rattle.std.proofs.Common.{◌≡◌, take, Some}
use Rattle.std.specs.List.{flat_map}
use Rattle.ringcore_laws.specs.History.{tags}
use Rattle.ringcore.specs.Entries.{claimed}
use Rattle.ringcore.proofs.places.mark_items.Given as goal

abbrev pub invariant-loop-k : goal.invariant-loop-k
invariant-loop-k l =
    claimed l.actor l.initial.places (flat_map tags (take l.k l.items)) ≡ Some l.places
