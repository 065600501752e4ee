-- The first-level entries in memory: blocks of 256, each of which has one entry for all addresses or memory of its own.
use Rattle.std.specs.Prelude.{◌≡◌, ℕ, ◌+◌, ◌*◌, ◌/◌, ◌%◌, ◌<◌, ◌≤◌, List, length, map, ltb, nat_eq, slice_index_or, if◌then◌else◌}
use Rattle.std.specs.List.{count_by, range_with_len}
use Rattle.lpm.specs.TableEntry.{TableEntry, entry_of}

-- which block in memory each block is: an offset is added to an entry's number, modulo 2^32, and gives its place
abbrev pub number_in : List ℕ → ℕ → ℕ
number_in offsets c = (slice_index_or offsets c 0 + c * 256) % 4294967296 / 256

unfoldable pub numbers_of : List ℕ → List ℕ
numbers_of offsets = map (number_in offsets) (range_with_len 0 (length offsets))

-- what an entry in memory stands for: none is the one entry of its block
abbrev pub inherited : TableEntry → TableEntry → TableEntry
inherited entry uniform = if nat_eq entry.depth 0 then uniform else entry

-- the entries of all blocks, in their order
abbrev pub place_in : List ℕ → ℕ → ℕ
place_in numbers i = slice_index_or numbers (i / 256) 0 * 256 + i % 256

unfoldable pub entries_of : List ℕ → List TableEntry → List TableEntry → List TableEntry
entries_of numbers uniform places =
    map (λ i. inherited (slice_index_or places (place_in numbers i) (entry_of 0 0)) (slice_index_or uniform (i / 256) (entry_of 0 0)))
    (range_with_len 0 (256 * length numbers))

-- how many blocks have memory of their own
abbrev pub own_of : List ℕ → ℕ
own_of numbers = count_by (ltb 0) numbers

pub record AreNumbered (numbers : List ℕ) (places : List TableEntry) (capacity : ℕ) : Type 0 where
  -- block 0 in memory has no routes, and is shared by all blocks with one entry for all addresses
  pub empty : (k : ℕ) → k < 256 → slice_index_or places k (entry_of 0 0) ≡ entry_of 0 0
  pub made : length places ≡ 256 * (own_of numbers + 1)
  pub within : (c : ℕ) → slice_index_or numbers c 0 ≤ own_of numbers
  pub alone : (c d : ℕ) → 0 < slice_index_or numbers c 0 → slice_index_or numbers c 0 ≡ slice_index_or numbers d 0 → c ≡ d
  -- there is room for every block without taking memory
  pub room : 256 * (length numbers + 1) ≤ capacity
  pub few : length numbers ≤ 65536

pub record AreBlocks (offsets : List ℕ) (uniform places : List TableEntry) (capacity : ℕ) : Type 0 where
  pub numbered : AreNumbered (numbers_of offsets) places capacity
  -- an offset leads to the first entry of a block in memory
  pub exact : (c : ℕ) → c < length offsets → (slice_index_or offsets c 0 + c * 256) % 4294967296 % 256 ≡ 0
  pub each : length uniform ≡ length offsets
  -- a block with memory of its own has no one entry
  pub cleared : (c : ℕ) → 0 < slice_index_or (numbers_of offsets) c 0 → slice_index_or uniform c (entry_of 0 0) ≡ entry_of 0 0

abbrev pub HasBlocks : List ℕ → List TableEntry → List TableEntry → Type 0
HasBlocks offsets uniform places = (capacity : ℕ) × AreBlocks offsets uniform places capacity
