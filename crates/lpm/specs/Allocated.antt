-- How the levels are laid out in memory: which numbers are groups, whose they are, and which are free.
use Rattle.std.specs.Prelude.{◌≡◌, ◌≢◌, ℕ, ◌+◌, ◌*◌, ◌<◌, ◌≤◌, ◌^◌, List, length, slice_index_or, true}
use Rattle.std.specs.List.{count_by}
use Rattle.lpm.specs.TableEntry.{TableEntry, entry_of, is_group}
use Rattle.lpm.specs.Prefixes.{size_of}

-- how many groups have memory
abbrev pub made_of : List TableEntry → List ℕ → ℕ
made_of first free = count_by is_group first + length free

pub record GroupsAreAllocated (bits limit : ℕ) (first groups : List TableEntry) (free : List ℕ) (capacity : ℕ)
    : Type 0 where
  -- the two forms of a first level
  pub form : bits ≢ 16 → bits ≡ 24
  pub whole : length first ≡ 2 ^ bits
  pub made : length groups ≡ made_of first free * size_of bits
  pub within : made_of first free ≤ limit
  pub fits : made_of first free ≤ 2 ^ bits
  -- each group that an entry names has memory, and belongs to that entry alone
  pub named : (i : ℕ) → is_group (slice_index_or first i (entry_of 0 0)) ≡ true
      → (slice_index_or first i (entry_of 0 0)).number < made_of first free
  pub alone : (i j : ℕ) → is_group (slice_index_or first i (entry_of 0 0)) ≡ true
      → is_group (slice_index_or first j (entry_of 0 0)) ≡ true
      → (slice_index_or first i (entry_of 0 0)).number ≡ (slice_index_or first j (entry_of 0 0)).number → i ≡ j
  -- each free group has memory, is listed once, and no entry names it
  pub idle : (k : ℕ) → k < length free → slice_index_or free k 0 < made_of first free
  pub once : (k l : ℕ) → k < length free → l < length free → slice_index_or free k 0 ≡ slice_index_or free l 0 → k ≡ l
  pub unnamed : (k i : ℕ) → k < length free → is_group (slice_index_or first i (entry_of 0 0)) ≡ true
      → (slice_index_or first i (entry_of 0 0)).number ≢ slice_index_or free k 0
  -- there is room to free every group without taking memory
  pub room : made_of first free ≤ capacity
