-- What a binary search finds among entries whose ids don't decrease.
use Rattle.std.proofs.Common.{◌≡◌, ◌≢◌, ◌+◌, ◌<◌, ℕ, List, [], ◌∷◌, length, map, sym, refl, ap, inl, inr, arith}
use Rattle.std.proofs.Common.{Ok, Err}
use Rattle.std.specs.Prelude.{All, remove}
use Rattle.std.specs.List.Sorted.{IsSearchInRange, IsBinarySearchResult, IsNonDecreasing, IsNonDecreasingBy}
use Rattle.std.specs.Ordering.{nat_cmp, ordering_index}
use Rattle.std.proofs.lemmas.Cmp.{ranked}
use Rattle.std.proofs.lemmas.Bool.{cases_lt}
use Rattle.std.proofs.lemmas.Bool.Decides.{nat_tests}
use Rattle.std.proofs.lemmas.List.{get_or-map, length-map}
use Rattle.std.proofs.lemmas.List.Edits.{get_or-remove_below, get_or-remove_above, length-remove}
use Rattle.mbuf.specs.declared.entry.Entry.{Entry}
use Rattle.slab.specs.Slab.{Slab}
use Rattle.mbuf.specs.Buffer.{Buffer}
use Rattle.mbuf.specs.Deck.{Share}
use Rattle.mbuf.specs.Entries.{HasIdAt, live_of}

module _ (entries : List Entry) (rising : IsNonDecreasingBy (λ (entry : Entry). entry.id) entries) (id : ℕ) where
  -- the comparisons with the id increase along the entries
  comparisons_rise : IsNonDecreasingBy (λ (entry : Entry). ordering_index (nat_cmp entry.id id)) entries
  comparisons_rise i j d le below = let up = rising i j d le below in grind (arith, nat_tests)

  pub found : (i : ℕ) → IsSearchInRange (Ok i) (length entries) → IsBinarySearchResult (λ (entry : Entry). nat_cmp entry.id id) entries (Ok i)
      → HasIdAt id entries i
  found i there equal = record { there = there; is = λ entry. ranked _ id _ (sym (equal entry)) }

  pub absent : (i : ℕ) → IsBinarySearchResult (λ (entry : Entry). nat_cmp entry.id id) entries (Err i)
      → All (λ (entry : Entry). entry.id ≢ id) entries
  absent i parted k d below same = elim (cases_lt k i) [
    | inl less ↦ (let smaller = ranked _ id _ (sym ((parted comparisons_rise).0 k d (omega arith) less)) in omega (arith, smaller, same))
    | inr more ↦ (let greater = ranked _ id _ (sym ((parted comparisons_rise).1 k d more below)) in omega (arith, greater, same))
  ]

-- the ids of shares are those of their entries
pub kept_ids : (packets : Slab (List Buffer)) (entries : List Entry)
    → map (λ (share : Share). share.id) (live_of packets entries) ≡ map (λ (entry : Entry). entry.id) entries
kept_ids packets [] = refl
kept_ids packets (entry ∷ entries) = ap (λ (ns : List ℕ). entry.id ∷ ns) (kept_ids packets entries)

-- a list doesn't decrease by f if its values of f don't decrease
pub rising_by : {X : Type 0} (f : X → ℕ) (xs : List X) → IsNonDecreasing (map f xs) → IsNonDecreasingBy f xs
rising_by f xs up i j d le below =
    let long = length-map xs f in
    omega (arith, get_or-map f xs i d (f d) (omega arith), get_or-map f xs j d (f d) below, up i j (f d) le (omega (arith, long)))

pub rising_remove : (ns : List ℕ) (i : ℕ) → i < length ns → IsNonDecreasing ns → IsNonDecreasing (remove ns i)
rising_remove ns i there up a b d le below =
    let long = length-remove ns i there in
    elim (cases_lt a i) [
      | inl low ↦ elim (cases_lt b i) [
        | inl both ↦ omega (arith, get_or-remove_below ns i d a low there, get_or-remove_below ns i d b both there, up a b d le (omega arith))
        | inr high ↦ (let here = get_or-remove_above ns i d b high there in
            omega (arith, get_or-remove_below ns i d a low there, here, up a (b + 1) d (omega arith) (omega (arith, long))))
      ]
      | inr high ↦ (let here = get_or-remove_above ns i d b (omega arith) there in
          omega (arith, get_or-remove_above ns i d a high there, here, up (a + 1) (b + 1) d (omega arith) (omega (arith, long))))
    ]
