-- How a row of places represents a window: number n has its place at `n mod size`.
use Rattle.std.specs.Prelude.{◌≡◌, ℕ, zero, suc, ◌+◌, ◌-◌, ◌%◌, ◌^◌, ◌<◌, ◌≤◌, List, [], ◌∷◌, length, slice_index_or}
use Rattle.std.specs.Prelude.{Option, Some, None, IsTrue, is_some}
use Rattle.std.specs.Ordering.{nat_cmp}
use Rattle.std.specs.FinMap as map
use Rattle.reorder.specs.Waiting.{Waiting}

-- a pair before the others, if there is an item
abbrev pub pair_before : {T : Type 0} → ℕ → Option T → List (ℕ × T) → List (ℕ × T)
pair_before n None pairs = pairs
pair_before n (Some x) pairs = (n, x) ∷ pairs

-- what is at the place of number n
abbrev pub at_number : {T : Type 0} → List (Option T) → ℕ → Option T
at_number places n = slice_index_or places (n % length places) None

-- the pairs of `count` numbers from n on
abbrev pub pairs_from : {T : Type 0} → List (Option T) → ℕ → ℕ → List (ℕ × T)
pairs_from places n zero = []
pairs_from places n (suc count) = pair_before n (at_number places n) (pairs_from places (n + 1) count)

-- what the places hold when `next` is the next number to be released
abbrev pub held_in : {T : Type 0} → List (Option T) → ℕ → map.FinMap nat_cmp T
held_in places next = map.from_entries (pairs_from places next (length places))

-- the window that the places represent: the one reading of them
abbrev pub waiting_in : {T : Type 0} → List (Option T) → ℕ → Waiting T
waiting_in places next = record { held = held_in places next; next = next; size = length places }

-- r is the least number from `next` on, below n, whose place has an item, or n if there is none
pub record IsFirstHeld {T : Type 0} (places : List (Option T)) (next n r : ℕ) : Type 0 where
  pub from : next ≤ r
  pub upto : r ≤ n
  pub passed : (k : ℕ) → next ≤ k → k < r → k < next + length places → at_number places k ≡ None
  pub near : r < n → r < next + length places
  pub found : r < n → IsTrue (is_some (at_number places r))

-- `head` is the place of `next`, and the last number of 64 bits has no item
pub record IsRowOf {T : Type 0} (places : List (Option T)) (head next : ℕ) : Type 0 where
  pub some : 0 < length places
  pub small : length places ≤ 65536
  pub at_head : head ≡ next % length places
  pub unreached : (n : ℕ) → 2 ^ 64 - 1 ≤ n → map.get (held_in places next) n ≡ None
