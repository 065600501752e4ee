use Rattle.std.proofs.Common.{◌≡◌, ℕ, length}
use Rattle.stages.specs.Custody.{in_items}
use Rattle.stages.proofs.threads.reader.dismiss.Given as goal

abbrev pub invariant-loop-i : goal.invariant-loop-i
invariant-loop-i g l = record {
  many : length l.batch ≡ l._i;
  none : (b : ℕ) → in_items l.batch b ≡ 0;
}
