use Rattle.std.proofs.Common.{◌≡◌, ◌≤◌, ◌<◌, ◌++◌, ℕ, drop, length, take}
use Rattle.std.specs.Prelude.{◌≢◌}
use Rattle.fabric.specs.Closed.{left, ring_count}
use Rattle.capi.proofs.rings.ending.empty.Given as goal

abbrev pub invariant-loop-i : goal.invariant-loop-i
invariant-loop-i l = record {
  there : l.ring < ring_count l.leftover.closed;
  same : ring_count l.leftover.closed ≡ ring_count l.initial.leftover.closed;
  inside : l.i ≤ length l.initial.words;
  long : length l.words ≡ length l.initial.words;
  after : (k : ℕ) → l.i ≤ k → drop k l.words ≡ drop k l.initial.words;
  given : left l.initial.leftover.closed l.ring ≡ take l.i l.words ++ left l.leftover.closed l.ring;
  others : (q : ℕ) → q ≢ l.ring → left l.leftover.closed q ≡ left l.initial.leftover.closed q;
}
