-- The least number held, and where a slide ends.
use Rattle.std.proofs.Common.{◌≡◌, ℕ, ◌<◌, ◌≤◌, inl, inr, Bool, true, false, cond, Ordering, Less, Equal, Greater, refl, T, ◌&&◌, min, List, [], ◌∷◌, map}
use Rattle.std.proofs.Common.{get_or, Some, is_some, is_lt, true≢false, sym, ap, ◌∙◌, arith}
use Rattle.std.specs.Ordering.{nat_cmp, MatchOrdering}
use Rattle.std.specs.Cmp.{ranked}
use Rattle.std.specs.FinMap.{find, get, entries, entries_sorted, get-entries, is_sorted}
use Rattle.std.specs.FinMap.Entries.{below_all}
use Rattle.std.proofs.lemmas.Bool.{cases_eq, cases_lt}
use Rattle.reorder.specs.Waiting.{Waiting, slid_to}
use Rattle.reorder.proofs.HeldLaws.{tied, untied}

first_part : (a b : Bool) → T (a && b) → T a
first_part true b both = tt
first_part false b both = both

second_part : (a b : Bool) → T (a && b) → T b
second_part true b both = both
second_part false b both = absurd both

less_by : (x y : ℕ) (r : Ordering) → MatchOrdering r (x < y) (x ≡ y) (y < x) → T (is_lt r) → x < y
less_by x y Less ranks lt = ranks
less_by x y Equal ranks lt = absurd lt
less_by x y Greater ranks lt = absurd lt

is_below : (x y : ℕ) → T (is_lt (nat_cmp x y)) → x < y
is_below x y lt = less_by x y (nat_cmp x y) (ranked x y _ refl) lt

module _ {X : Type 0} where
  found_later : (q x : ℕ) (e : ℕ × X) (es : List (ℕ × X)) → (q ≡ e.0 → x < q)
      → (is_some (find nat_cmp q es) ≡ true → x < q) → is_some (find nat_cmp q (e ∷ es)) ≡ true → x < q
  found_later q x e es here there found = elim (cases_eq q e.0) [
    | inl same ↦ here same
    | inr other ↦ there (sym (ap (λ b. is_some (cond b (Some e.1) (find nat_cmp q es))) (untied q e.0 other)) ∙ found)
  ]

  below_found : (q x : ℕ) (es : List (ℕ × X)) → T (below_all nat_cmp x es) → is_some (find nat_cmp q es) ≡ true
      → x < q
  below_found q x [] below found = absurd (true≢false (sym found))
  below_found q x (e ∷ es) below found =
      let first_below : x < e.0 = is_below x e.0 (first_part (is_lt (nat_cmp x e.0))
      (below_all nat_cmp x es) below) in
      found_later q x e es (λ same. omega arith) (below_found q x es
      (second_part (is_lt (nat_cmp x e.0)) (below_all nat_cmp x es) below)) found

  -- the first key of a list in order is the least that is found
  first_least : (q other : ℕ) (es : List (ℕ × X)) → T (is_sorted nat_cmp es) → is_some (find nat_cmp q es) ≡ true
      → get_or (map (λ e. e.0) es) 0 other ≤ q
  first_least q other [] sorted found = absurd (true≢false (sym found))
  first_least q other (e ∷ es) sorted found = elim (cases_eq q e.0) [
    | inl same ↦ omega arith
    | inr apart ↦
        let later : is_some (find nat_cmp q es) ≡ true = sym
        (ap (λ b. is_some (cond b (Some e.1) (find nat_cmp q es))) (untied q e.0 apart)) ∙ found in
        let above : e.0 < q = below_found q e.0 es (first_part (below_all nat_cmp e.0 es)
        (is_sorted nat_cmp es) sorted) later in
        omega arith
  ]

  first_found : (e : ℕ × X) (es : List (ℕ × X)) → is_some (find nat_cmp e.0 (e ∷ es)) ≡ true
  first_found e es = ap (λ b. is_some (cond b (Some e.1) (find nat_cmp e.0 es))) (tied e.0 e.0 refl)

  -- r is n, or the least number found if that is lower
  least_of : (n r : ℕ) (es : List (ℕ × X)) → T (is_sorted nat_cmp es) → r ≤ n
      → ((k : ℕ) → is_some (find nat_cmp k es) ≡ true → r ≤ k) → (r < n → is_some (find nat_cmp r es) ≡ true)
      → min n (get_or (map (λ e. e.0) es) 0 n) ≡ r
  least_of n r [] sorted upto none_passed stopped = elim (cases_lt r n)
      [ inl short ↦ absurd (true≢false (sym (stopped short))) | inr whole ↦ omega arith ]
  least_of n r (e ∷ es) sorted upto none_passed stopped =
      let not_above : r ≤ e.0 = none_passed e.0 (first_found e es) in
      elim (cases_lt r n) [
        | inl short ↦ let not_below : e.0 ≤ r = first_least r n (e ∷ es) sorted (stopped short) in omega arith
        | inr whole ↦ omega arith
      ]

  -- where a slide to n ends: at n, or at the first item on the way
  pub slides : (w : Waiting X) (n r : ℕ) → w.next ≤ r → r ≤ n → ((k : ℕ) → is_some (get w.held k) ≡ true → r ≤ k)
      → (r < n → is_some (get w.held r) ≡ true) → r ≡ slid_to w n
  slides w n r from upto none_passed stopped =
      let least : min n (get_or (map (λ e. e.0) (entries w.held)) 0 n) ≡ r =
      least_of n r (entries w.held) (entries_sorted w.held) upto
      (λ k found. none_passed k (ap is_some (get-entries w.held k) ∙ found))
      (λ short. ap is_some (sym (get-entries w.held r)) ∙ stopped short) in
      omega (arith, least)
