use Rattle.std.proofs.Common.{◌≡◌, take}
use Rattle.std.specs.List.{flat_map}
use Rattle.ringcore_laws.specs.declared.protocol.Place.TheVariants.{Held}
use Rattle.ringcore_laws.specs.History.{tags}
use Rattle.ringcore.specs.Entries.{with_each}
use Rattle.ringcore.proofs.places.hold_items.Given as goal

abbrev pub invariant-loop-k : goal.invariant-loop-k
invariant-loop-k l =
    l.places ≡ with_each l.initial.places (flat_map tags (take l.k l.items)) (Held l.actor)
