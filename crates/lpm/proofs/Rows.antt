-- Worked rows of prefixes, entries and levels, computed by the definitions. Addresses are written as numbers: 10.1.9.9 is 167840009
use Rattle.std.proofs.Common.{◌≡◌, ℕ, zero, suc, List, [], ◌∷◌, ◌++◌, replicate, refl, false, arith}
use Rattle.std.specs.Prelude.{Some, None, slice_index_or}
use Rattle.lpm.specs.Blocks.{inherited, entries_of, numbers_of, own_of, place_in, AreBlocks, AreNumbered}
use Rattle.lpm.specs.FirstLevel.{entries_in}
use Rattle.lpm.specs.NextHop.{word_of_hop, hop_in_word}
use Rattle.lpm.specs.Overwrite.{AreNoGroups}
use Rattle.lpm.specs.Prefixes.{IsDepth, first_bits, masked, prefix_of, size_of}
use Rattle.lpm.specs.declared.first_level.FirstLevel.TheVariants as form
use Rattle.lpm.specs.TableEntry.{TableEntry, entry_in, entry_of, group_of, hop_of, is_group, overwritten, word_of}
use Rattle.lpm.specs.TwoLevels.{first_at, no_routes, used_of}

-- 10.1.0.0 is 167837696
pub masked_to_16 : prefix_of 167840009 16 ≡ record { address = 167837696; depth = 16 }
masked_to_16 = refl

pub masked_to_32 : masked 167840009 32 ≡ 167840009
masked_to_32 = refl

-- the last address, 255.255.255.255, to 128.0.0.0
pub masked_to_1 : masked 4294967295 1 ≡ 2147483648
masked_to_1 = refl

pub first_two_bytes : first_bits 167840009 16 ≡ 2561
first_two_bytes = refl

pub a_level_of_24_bits : size_of 24 ≡ 256
a_level_of_24_bits = refl

pub least_depth : IsDepth 1
least_depth = (omega arith, omega arith)

pub greatest_depth : IsDepth 32
greatest_depth = (omega arith, omega arith)

pub no_depth_0 : ¬ IsDepth 0
no_depth_0 d = let h = d.0 in absurd (omega arith)

pub no_depth_33 : ¬ IsDepth 33
no_depth_33 d = let h = d.1 in absurd (omega arith)

-- a route of the same depth replaces the one before, a deeper one is unchanged
pub same_depth : overwritten 16 (entry_of 16 4) (entry_of 16 2) ≡ entry_of 16 4
unfolding overwritten
same_depth = refl

pub deeper_stays : overwritten 16 (entry_of 16 4) (entry_of 17 2) ≡ entry_of 17 2
unfolding overwritten
deeper_stays = refl

pub where_there_was_none : overwritten 1 (entry_of 1 4) (entry_of 0 0) ≡ entry_of 1 4
unfolding overwritten
where_there_was_none = refl

-- hop 0 is a hop
pub hop_zero : (hop_of (entry_of 8 0) ≡ Some 0) × (hop_of (entry_of 0 0) ≡ None)
hop_zero = (refl, refl)

pub greatest_hop : hop_of (entry_in (word_of (entry_of 32 16777215))) ≡ Some 16777215
greatest_hop = refl

pub a_group : (group_of (entry_of 33 7) ≡ Some 7) × (is_group (entry_of 32 7) ≡ false)
a_group = (refl, refl)

-- the results of a burst
pub answers : (hop_in_word (word_of_hop (Some 0)) ≡ Some 0) × (hop_in_word (word_of_hop (Some 16777215)) ≡ Some 16777215)
    × (hop_in_word (word_of_hop None) ≡ None)
answers = (refl, refl, refl)

-- a first level of three blocks of which only the last was written: it is block 1 in memory, and the others share block 0
three_blocks : numbers_of (0 ∷ 4294967040 ∷ 4294967040 ∷ []) ≡ 0 ∷ 0 ∷ 1 ∷ []
unfolding numbers_of
three_blocks = refl

one_of_its_own : own_of (0 ∷ 0 ∷ 1 ∷ []) ≡ 1
one_of_its_own = refl

-- where entries 2, 258 and 514 are
places : (place_in (0 ∷ 0 ∷ 1 ∷ []) 2 ≡ 2) × (place_in (0 ∷ 0 ∷ 1 ∷ []) 258 ≡ 2) × (place_in (0 ∷ 0 ∷ 1 ∷ []) 514 ≡ 258)
places = (refl, refl, refl)

-- two blocks can't have the same memory of their own
two_in_one : (blocks : List TableEntry) (cap : ℕ) → ¬ AreNumbered (1 ∷ 1 ∷ []) blocks cap
two_in_one blocks cap are = let same = are.alone 0 1 (omega arith) refl in absurd (omega arith)

-- nor can a block begin in the middle of one in memory
off_by_one : (uniform blocks : List TableEntry) (cap : ℕ) → ¬ AreBlocks (1 ∷ []) uniform blocks cap
off_by_one uniform blocks cap are = let exact = are.exact 0 (omega arith) in absurd (omega arith)

-- a block of one entry, and one of its own whose first entry was written
entry_5 : slice_index_or (entries_of (0 ∷ []) (entry_of 8 7 ∷ []) []) 5 (entry_of 0 0) ≡ entry_of 8 7
unfolding entries_of
entry_5 = refl

entry_0 : slice_index_or (entries_of (1 ∷ []) (entry_of 0 0 ∷ []) (replicate 256 (entry_of 0 0) ++ entry_of 24 3 ∷ [])) 0 (entry_of 0 0)
    ≡ entry_of 24 3
unfolding entries_of
entry_0 = refl

-- levels of 2 bits without a route, and at most 7 groups
empty : (first_at (no_routes 2 7) 3 ≡ entry_of 0 0) × ((no_routes 2 7).limit ≡ 7) × (used_of (no_routes 2 7) ≡ 0)
empty = (refl, refl, refl)

-- entries in blocks are seen as the list of them
in_blocks : (entries : List TableEntry) → entries_in (form.Sparse entries) ≡ entries
in_blocks entries = refl

-- an entry of its own, and one that its block has for all addresses
one_for_all : (inherited (entry_of 24 3) (entry_of 0 0) ≡ entry_of 24 3) × (inherited (entry_of 0 0) (entry_of 8 7) ≡ entry_of 8 7)
one_for_all = (refl, refl)

-- the second of two entries names a group
one_without_a_group : AreNoGroups (entry_of 8 1 ∷ entry_of 33 0 ∷ []) 0 1
one_without_a_group zero from to = refl
one_without_a_group (suc k) from to = absurd (omega arith)

two_with_a_group : ¬ AreNoGroups (entry_of 8 1 ∷ entry_of 33 0 ∷ []) 0 2
two_with_a_group are = let named = are 1 (omega arith) (omega arith) in cc
