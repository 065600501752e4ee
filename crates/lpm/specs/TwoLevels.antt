-- The levels of a table: a first level with an entry for each value of an address's first bits, and groups with an
-- entry for each address that has the first bits of one first-level entry (Longest Prefix Match Library chapter of
-- DPDK's guide: tbl24 and tbl8).
use Rattle.std.specs.Prelude.{◌≡◌, ◌≢◌, ℕ, ◌+◌, ◌*◌, ◌%◌, ◌<◌, ◌≤◌, ◌^◌, Bool, List, [], replicate, slice_index_or, if◌then◌else◌}
use Rattle.std.specs.List.{count_by}
use Rattle.lpm.specs.declared.prefix.Prefix.{Prefix}
use Rattle.lpm.specs.TableEntry.{TableEntry, entry_of, is_group, overwritten}
use Rattle.lpm.specs.Prefixes.{size_of, first_bits, masked}

pub record TwoLevels : Type 0 where
  -- how many first bits select a first-level entry
  pub bits : ℕ
  -- the maximum number of groups
  pub limit : ℕ
  pub first : List TableEntry
  -- group after group
  pub groups : List TableEntry
  -- how many groups have memory and belong to no first-level entry
  pub free : ℕ

-- entries without a route, and no groups
abbrev pub no_routes : ℕ → ℕ → TwoLevels
no_routes bits limit = record {
  bits = bits;
  limit = limit;
  first = replicate (2 ^ bits) (entry_of 0 0);
  groups = [];
  free = 0;
}

abbrev pub first_at : TwoLevels → ℕ → TableEntry
first_at p i = slice_index_or p.first i (entry_of 0 0)

abbrev pub grouped_at : TwoLevels → ℕ → ℕ → TableEntry
grouped_at p group low = slice_index_or p.groups (group * size_of p.bits + low) (entry_of 0 0)

-- the table's entry for the address with the first bits i and the other bits low
unfoldable pub entry_at : TwoLevels → ℕ → ℕ → TableEntry
entry_at p i low = if is_group (first_at p i) then grouped_at p (first_at p i).number low else first_at p i

-- the table's entry for an address
abbrev pub entry_for : TwoLevels → ℕ → TableEntry
entry_for p address = entry_at p (first_bits address p.bits) (address % size_of p.bits)

-- how many first-level entries have a group
abbrev pub used_of : TwoLevels → ℕ
used_of p = count_by is_group p.first

-- the address with the first-level entry i and the other bits low
abbrev pub address_at : TwoLevels → ℕ → ℕ → ℕ
address_at p i low = i * size_of p.bits + low

-- a fact of each place: a first-level entry and the other bits
abbrev pub EachPlace : TwoLevels → (ℕ → ℕ → Type 0) → Type 0
EachPlace p P = (i low : ℕ) → i < 2 ^ p.bits → low < size_of p.bits → P i low

-- no entry changes its kind, so each group belongs to the same entry
pub record KeepsGroups (old new : TwoLevels) : Type 0 where
  pub bits : new.bits ≡ old.bits
  pub limit : new.limit ≡ old.limit
  pub free : new.free ≡ old.free
  pub kinds : (i : ℕ) → is_group (first_at new i) ≡ is_group (first_at old i)
  pub used : used_of new ≡ used_of old

-- there may be memory for more groups, and no entry and no place changes
pub record Grows (old new : TwoLevels) : Type 0 where
  pub bits : new.bits ≡ old.bits
  pub limit : new.limit ≡ old.limit
  pub first : new.first ≡ old.first
  pub entries : EachPlace old (λ i low. entry_at new i low ≡ entry_at old i low)

-- one entry, whose kind this is afterwards, gets or loses its group, and no place changes
pub record Regroups (old new : TwoLevels) (first : ℕ) (kind : Bool) : Type 0 where
  pub bits : new.bits ≡ old.bits
  pub limit : new.limit ≡ old.limit
  pub here : is_group (first_at new first) ≡ kind
  pub others : (i : ℕ) → i ≢ first → is_group (first_at new i) ≡ is_group (first_at old i)
  pub entries : EachPlace old (λ i low. entry_at new i low ≡ entry_at old i low)

-- every place of the entries from `from` up to `to`, exclusive, is overwritten, and no other place
pub record OverwritesEntries (old new : TwoLevels) (from to depth : ℕ) (entry : TableEntry) : Type 0 where
  pub inside : EachPlace old (λ i low. from ≤ i → i < to
      → entry_at new i low ≡ overwritten depth entry (entry_at old i low))
  pub below : EachPlace old (λ i low. i < from → entry_at new i low ≡ entry_at old i low)
  pub above : EachPlace old (λ i low. to ≤ i → entry_at new i low ≡ entry_at old i low)

-- among one entry's places, those from `from` up to `to`, exclusive, are overwritten, and no other place
pub record OverwritesWithin (old new : TwoLevels) (first from to depth : ℕ) (entry : TableEntry) : Type 0 where
  pub inside : (low : ℕ) → low < size_of old.bits → from ≤ low → low < to
      → entry_at new first low ≡ overwritten depth entry (entry_at old first low)
  pub below : (low : ℕ) → low < size_of old.bits → low < from → entry_at new first low ≡ entry_at old first low
  pub above : (low : ℕ) → low < size_of old.bits → to ≤ low → entry_at new first low ≡ entry_at old first low
  pub others : EachPlace old (λ i low. i ≢ first → entry_at new i low ≡ entry_at old i low)

-- the places of a prefix are overwritten, and no other
pub record Overwrites (old new : TwoLevels) (prefix : Prefix) (entry : TableEntry) : Type 0 where
  pub covered : EachPlace old (λ i low. masked (address_at old i low) prefix.depth ≡ prefix.address
      → entry_at new i low ≡ overwritten prefix.depth entry (entry_at old i low))
  pub others : EachPlace old (λ i low. masked (address_at old i low) prefix.depth ≢ prefix.address
      → entry_at new i low ≡ entry_at old i low)
