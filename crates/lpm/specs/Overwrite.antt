-- The content of a range of entries after a member has been added that covers their addresses, or one was removed.
use Rattle.std.specs.Prelude.{◌≡◌, ℕ, ◌<◌, ◌≤◌, List, false, slice_index_or}
use Rattle.lpm.specs.TableEntry.{TableEntry, entry_of, is_group, overwritten}

-- the entries from `from` up to `to`, exclusive, that are no deeper have the new entry, and no other entry changes
pub record OverwritesFrom (old new : List TableEntry) (from to depth : ℕ) (entry : TableEntry) : Type 0 where
  pub inside : (k : ℕ) → from ≤ k → k < to
      → slice_index_or new k (entry_of 0 0) ≡ overwritten depth entry (slice_index_or old k (entry_of 0 0))
  pub below : (k : ℕ) → k < from → slice_index_or new k (entry_of 0 0) ≡ slice_index_or old k (entry_of 0 0)
  pub above : (k : ℕ) → to ≤ k → slice_index_or new k (entry_of 0 0) ≡ slice_index_or old k (entry_of 0 0)

-- the entries from `from` up to `to`, exclusive, have the entry, and no other entry changes
pub record FillsFrom (old new : List TableEntry) (from to : ℕ) (entry : TableEntry) : Type 0 where
  pub inside : (k : ℕ) → from ≤ k → k < to → slice_index_or new k (entry_of 0 0) ≡ entry
  pub below : (k : ℕ) → k < from → slice_index_or new k (entry_of 0 0) ≡ slice_index_or old k (entry_of 0 0)
  pub above : (k : ℕ) → to ≤ k → slice_index_or new k (entry_of 0 0) ≡ slice_index_or old k (entry_of 0 0)

-- none of the entries from `from` up to `to`, exclusive, names a group
abbrev pub AreNoGroups : List TableEntry → ℕ → ℕ → Type 0
AreNoGroups entries from to = (k : ℕ) → from ≤ k → k < to → is_group (slice_index_or entries k (entry_of 0 0)) ≡ false
