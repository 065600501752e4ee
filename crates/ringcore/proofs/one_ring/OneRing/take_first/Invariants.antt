use Rattle.std.proofs.Common.{◌≡◌, ◌+◌, ◌++◌, take, drop, vec_len, vec_capacity}
use Rattle.ringcore.proofs.one_ring.OneRing.take_first.Given as goal

abbrev pub invariant-loop : goal.invariant-loop
invariant-loop g l =
    (l.self ≡ record l.initial.self { items = drop l.counter l.initial.self.items })
    × (l.out.items ≡ l.initial.out.items ++ take l.counter l.initial.self.items)
    × (vec_len l.out ≡ vec_len l.initial.out + l.counter)
    × (vec_capacity l.out ≡ vec_capacity l.initial.out)
