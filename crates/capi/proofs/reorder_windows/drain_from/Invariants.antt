use Rattle.std.proofs.Common.{◌≡◌, ◌≤◌, ℕ, drop, length, take}
use Rattle.capi.specs.Windows.{Leave}
use Rattle.capi.proofs.reorder_windows.drain_from.Given as goal

abbrev pub invariant-loop-i : goal.invariant-loop-i
invariant-loop-i l = record {
  inside : l.i ≤ length l.initial.words;
  long : length l.words ≡ length l.initial.words;
  after : (k : ℕ) → l.i ≤ k → drop k l.words ≡ drop k l.initial.words;
  given : Leave (take l.i l.words) l.initial.window l.window;
}
