use Rattle.std.proofs.Common.{◌≡◌, []}
use Rattle.fabric.specs.Hands.{IsHandOf, view}
use Rattle.stages.proofs.threads.worker.take_batch.Given as goal

abbrev pub invariant-loop : goal.invariant-loop
invariant-loop g l = record {
  iterator : (goal.iterator-loop g).can_next l.iterator' × (goal.iterator-loop g).is_finite l.iterator';
  hand : IsHandOf l.f l.hand;
  into : l.into ≡ [];
  party : (view l.hand).party ≡ (view l.fn.hand).party;
}
