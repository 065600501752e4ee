use Rattle.std.proofs.Common.{◌≡◌, ℕ, vec_len}
use Rattle.ringcore_laws.specs.FreeRings.{AreSingle}
use Rattle.stages.specs.Custody.{HoldsOf}
use Rattle.stages.specs.Numbers.{item_numbers}
use Rattle.stages.proofs.threads.sink.let_go.Given as goal

abbrev pub invariant-loop : goal.invariant-loop
invariant-loop g l = record {
  iterator : (goal.iterator-loop g).can_next l.iterator' × (goal.iterator-loop g).is_finite l.iterator';
  many : vec_len l.sink.outputs.writers ≡ vec_len l.fn.sink.outputs.writers;
  yours : HoldsOf l.access.hand l.free l.sink.window (λ _. 0);
  single : AreSingle item_numbers l.free;
  kept : (others : ℕ → ℕ) → HoldsOf l.fn.access.hand l.fn.free l.fn.sink.window others → HoldsOf l.access.hand l.free l.sink.window others;
}
