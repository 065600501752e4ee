use Rattle.std.proofs.Common.{◌≡◌, vec_len, vec_capacity, replicate, None}
use Rattle.reorder.proofs.places.empty_row.Given as goal

abbrev pub invariant-loop : goal.invariant-loop
invariant-loop g l = (l.places.items ≡ replicate l.counter None) × (vec_len l.places ≡ l.counter)
    × (vec_capacity l.places ≡ l.size)
