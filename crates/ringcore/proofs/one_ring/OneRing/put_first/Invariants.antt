use Rattle.std.proofs.Common.{◌≡◌, ◌++◌, take, drop}
use Rattle.ringcore.proofs.one_ring.OneRing.put_first.Given as goal

abbrev pub invariant-loop : goal.invariant-loop
invariant-loop g l =
    (l.self ≡ record l.initial.self { items = l.initial.self.items ++ take l.counter l.initial.items.items })
    × (l.items.items ≡ drop l.counter l.initial.items.items)
