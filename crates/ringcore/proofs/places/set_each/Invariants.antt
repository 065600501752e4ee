use Rattle.std.proofs.Common.{◌≡◌, take}
use Rattle.ringcore.specs.Entries.{with_each}
use Rattle.ringcore.proofs.places.set_each.Given as goal

abbrev pub invariant-loop-k : goal.invariant-loop-k
invariant-loop-k l =
    l.places ≡ with_each l.initial.places (take l.k l.numbers) l.place
