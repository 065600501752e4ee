use Rattle.std.proofs.Common.{◌≡◌, ◌≤◌, vec_len}
use Rattle.ringcore_laws.specs.FreeRings.{AreSingle}
use Rattle.stages.specs.Custody.{HoldsOf, in_items}
use Rattle.stages.specs.Numbers.{item_numbers}
use Rattle.stages.proofs.threads.sink.handle_all.Given as goal

abbrev pub invariant-loop-i : goal.invariant-loop-i
invariant-loop-i g l = record {
  marks : l.marks ≤ l._i;
  many : vec_len l.sink.outputs.writers ≡ vec_len l.fn.sink.outputs.writers;
  yours : HoldsOf l.access.hand l.free l.sink.window (in_items l.items);
  single : AreSingle item_numbers l.free;
}
