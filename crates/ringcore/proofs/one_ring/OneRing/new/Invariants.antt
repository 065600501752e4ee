use Rattle.std.proofs.Common.{◌≡◌, replicate, None}
use Rattle.ringcore.proofs.one_ring.OneRing.new.Given as goal

abbrev pub invariant-loop : goal.invariant-loop
invariant-loop g l = l.slots.items ≡ replicate l.counter None
