use Rattle.std.proofs.Common.{◌≡◌, [], vec_len}
use Rattle.stages.specs.Custody.{HoldsOf}
use Rattle.stages.proofs.threads.sink.drain.Given as goal

abbrev pub invariant-loop : goal.invariant-loop
invariant-loop g l = record {
  iterator : (goal.iterator-loop g).can_next l.iterator' × (goal.iterator-loop g).is_finite l.iterator';
  many : vec_len l.sink.outputs.writers ≡ vec_len l.fn.sink.outputs.writers;
  none : l.free ≡ [];
  yours : HoldsOf l.access.hand l.free l.sink.window (λ _. 0);
}
