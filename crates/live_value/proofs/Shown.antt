-- Readers' lines, one after another: the first ones are done, or are late.
use Rattle.std.proofs.Common.{ℕ, ◌<◌, ◌≤◌, true, false, List, length, slice_index_or}
use Rattle.live_value.specs.declared.past.Past.{Past}
use Rattle.live_value.specs.declared.line.Line.{Line}
use Rattle.live_value.specs.Pasts.{followed}
use Rattle.live_value.specs.Lines.{IsDone, IsShown}

module _ {T : Type 0} where
  abbrev pub DoneUpTo : List (Line T) → ℕ → Type 0
  DoneUpTo lines n = (k : ℕ) (d : Line T) → k < n → IsDone (slice_index_or lines k d)

  -- the first n are late for x, and the others have all of h
  pub record BehindUpTo (h : Past T) (x : T) (lines : List (Line T)) (n : ℕ) : Type 0 where
    pub late : (k : ℕ) (d : Line T) → k < n → k < length lines → IsShown (followed h x) true (slice_index_or lines k d)
    pub rest : (k : ℕ) (d : Line T) → n ≤ k → k < length lines → IsShown h false (slice_index_or lines k d)
