use Rattle.std.proofs.Common.{◌≡◌, ℕ, ◌+◌, ◌<◌, ◌≤◌, get_or}
use Rattle.counters.proofs.row.add_row.Given as goal

abbrev pub invariant-loop-i : goal.invariant-loop-i
invariant-loop-i l = record {
  below : (k : ℕ) → k < l.i → get_or l.row k 0 ≡ get_or l.initial.row k 0 + get_or l.other k 0;
  above : (k : ℕ) → l.i ≤ k → get_or l.row k 0 ≡ get_or l.initial.row k 0;
}
