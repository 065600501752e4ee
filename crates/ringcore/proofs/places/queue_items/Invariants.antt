use Rattle.std.proofs.Common.{◌≡◌, ◌+◌, ◌<◌, ◌^◌, length, take}
use Rattle.ringcore.specs.Entries.{with_items_at}
use Rattle.ringcore.proofs.places.queue_items.Given as goal

abbrev pub invariant-loop-k : goal.invariant-loop-k
invariant-loop-k l =
    l.start + length l.items < 2 ^ 64 → l.places ≡ with_items_at l.initial.places l.ring l.start (take l.k l.items)
