-- The content of one entry of the first level or of a group.
use Rattle.std.specs.Prelude.{ℕ, ◌+◌, ◌*◌, ◌/◌, ◌%◌, ◌^◌, Bool, Option, Some, None, nat_eq, nat_lt, nat_le}
use Rattle.std.specs.Prelude.{if◌then◌else◌}

-- Depth 0: no member covers the entry's addresses. Depth 1 to 32: the longest member that does, and its hop. Above: a
-- group's number.
pub record TableEntry : Type 0 where
  pub depth : ℕ
  pub number : ℕ

abbrev pub entry_of : ℕ → ℕ → TableEntry
entry_of depth number = record { depth = depth; number = number }

-- the word in which an entry is packed: 0 if there is no member, otherwise the number, a flag and the depth
abbrev pub word_of : TableEntry → ℕ
word_of entry = if nat_eq entry.depth 0 then 0 else (entry.depth * 2 ^ 25 + 2 ^ 24 + entry.number)

-- the entry in a word
abbrev pub entry_in : ℕ → TableEntry
entry_in word = entry_of (word / 2 ^ 25) (word % 2 ^ 24)

abbrev pub is_group : TableEntry → Bool
is_group entry = nat_lt 32 entry.depth

-- the hop of the longest match, if the entry doesn't name a group
abbrev pub hop_of : TableEntry → Option ℕ
hop_of entry = if nat_eq entry.depth 0 then None else Some entry.number

-- the group that the entry names, if it names one
abbrev pub group_of : TableEntry → Option ℕ
group_of entry = if is_group entry then Some entry.number else None

-- the entry after a member of this depth, with this new entry, was added that covers its addresses: deeper ones stay
unfoldable pub overwritten : ℕ → TableEntry → TableEntry → TableEntry
overwritten depth new entry = if nat_le entry.depth depth then new else entry
