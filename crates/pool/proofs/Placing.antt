-- Where the buffers of words lie, as words are pushed and popped
use Rattle.std.proofs.Common.{◌≡◌, ℕ, zero, suc, ◌+◌, ◌<◌, ◌≤◌, ◌++◌, ◌∷◌, ◌⊎◌, inl, inr, Bool, List, [], Some, length, take, refl, sym, ap, subst, ◌∙◌, arith, true, false}
use Rattle.std.specs.Prelude.{◌==◌, slice_get, slice_index_or, slice_set}
use Rattle.std.specs.List.{list_all}
use Rattle.std.proofs.lemmas.Bool.{cases_eq}
use Rattle.std.proofs.lemmas.List.{get_or-set_other, get_or-set_same, take-append-drop, take-take, take_at}
use Rattle.std.proofs.lemmas.Bool.Decides.{nat_tests}
use Rattle.std.proofs.lemmas.List.Sums.{count_by-le-length, count_by_more_no, sum_by-cons}
use Rattle.ringcore_laws.specs.FreeRings.{AreSingle}
use Rattle.ringcore_laws.specs.Sound.{occurrences, occurrences_in}
use Rattle.ringcore_laws.proofs.OpeningLaws.{occurrences-cons}
use Rattle.ringcore_laws.proofs.RingLaws.{below_or_not}
use Rattle.fabric.specs.Owned.{told}
use Rattle.ringapi.proofs.Counts.{count_at, count_both, count_parts, count_past}
use Rattle.ringapi.proofs.Singles.{first_of, rest_of}
use Rattle.pool.specs.Places.{AreBelow, AreOnce, ArePlaced}

occurs_once : (b : ℕ) (numbers : List ℕ) → (length numbers == 1) ≡ true → occurrences b numbers ≤ 1
occurs_once b numbers one =
    let long : length numbers ≡ 1 = grind (arith, nat_tests, one) in omega (arith, long, count_by-le-length (λ n. n == b) numbers)

occurs_here : (b : ℕ) → occurrences b (b ∷ []) ≡ 1
occurs_here b = elim (occurrences-cons b b []) [
  | inl same ↦ omega (arith, same.1)
  | inr apart ↦ absurd (apart.0 refl)
]

module _ {T : Type 0} (tags : T → List ℕ) (b : ℕ) where
  -- the word at a place carries it at most as often as the words do
  told_le : (xs : List T) (p : ℕ) → occurrences b (told tags (slice_get xs p)) ≤ occurrences_in tags b xs
  told_le [] p = omega arith
  told_le (x ∷ xs) zero = omega (arith, sum_by-cons (λ y. occurrences b (tags y)) x xs)
  told_le (x ∷ xs) (suc p) = omega (arith, sum_by-cons (λ y. occurrences b (tags y)) x xs, told_le xs p)

  told_first : (xs ys : List T) (p : ℕ) → occurrences_in tags b (xs ++ ys) ≡ occurrences b (told tags (slice_get (xs ++ ys) p))
      → occurrences_in tags b xs ≡ occurrences b (told tags (slice_get xs p))
  told_first [] ys p e = refl
  told_first (x ∷ xs) ys zero e =
      omega (arith, e, sum_by-cons (λ y. occurrences b (tags y)) x (xs ++ ys), sum_by-cons (λ y. occurrences b (tags y)) x xs, count_both tags b xs ys)
  told_first (x ∷ xs) ys (suc p) e =
      let le = told_le (xs ++ ys) p in
      let both = sum_by-cons (λ y. occurrences b (tags y)) x (xs ++ ys) in
      let rest : occurrences_in tags b (xs ++ ys) ≡ occurrences b (told tags (slice_get (xs ++ ys) p)) = omega (arith, e, le, both) in
      omega (arith, told_first xs ys p rest, sum_by-cons (λ y. occurrences b (tags y)) x xs, e, le, both)

  -- one word more
  told_other : (xs : List T) (x : T) (p : ℕ) → occurrences b (tags x) ≡ 0
      → occurrences b (told tags (slice_get (xs ++ x ∷ []) p)) ≡ occurrences b (told tags (slice_get xs p))
  told_other [] x zero e = e
  told_other [] x (suc p) e = refl
  told_other (y ∷ ys) x zero e = refl
  told_other (y ∷ ys) x (suc p) e = told_other ys x p e

  told_here : (xs : List T) (x : T) → told tags (slice_get (xs ++ x ∷ []) (length xs)) ≡ tags x
  told_here [] x = refl
  told_here (y ∷ ys) x = told_here ys x

  told_one : (xs : List T) (p : ℕ) → AreSingle tags xs → occurrences b (told tags (slice_get xs p)) ≤ 1
  told_one [] p single = omega arith
  told_one (x ∷ xs) zero single =
      occurs_once b (tags x) (first_of (length (tags x) == 1) (list_all (λ y. length (tags y) == 1) xs) single)
  told_one (x ∷ xs) (suc p) single =
      told_one xs p (rest_of (length (tags x) == 1) (list_all (λ y. length (tags y) == 1) xs) single)

-- a buffer is placed in words and one more, which carries the buffer c
abbrev IsHere : {T : Type 0} → (T → List ℕ) → List ℕ → List T → T → ℕ → ℕ → Type 0
IsHere tags at xs x c d =
    occurrences_in tags d (xs ++ x ∷ []) ≡ occurrences d (told tags (slice_get (xs ++ x ∷ []) (slice_index_or (slice_set at c (length xs)) d 0)))

module _ {T : Type 0} (tags : T → List ℕ) where
  -- words that are placed carry no buffer twice
  pub placed_once : (at : List ℕ) (xs : List T) → ArePlaced tags at xs → AreSingle tags xs → AreOnce tags xs
  placed_once at xs placed single b = omega (arith, placed b, told_one tags b xs (slice_index_or at b 0) single)

  -- the first ones are placed, too
  pub placed_first : (at : List ℕ) (xs ys : List T) → ArePlaced tags at (xs ++ ys) → ArePlaced tags at xs
  placed_first at xs ys placed b = told_first tags b xs ys (slice_index_or at b 0) (placed b)

  pub placed_take : (at : List ℕ) (k : ℕ) (xs : List T) → ArePlaced tags at xs → ArePlaced tags at (take k xs)
  placed_take at k xs placed = placed_first at (take k xs) _ (subst (ArePlaced tags at) (sym (take-append-drop k xs)) placed)

  -- and so is one more, which carries a buffer that they don't
  pub placed_next : (at : List ℕ) (xs : List T) (x : T) (c : ℕ) → ArePlaced tags at xs → tags x ≡ c ∷ [] → occurrences_in tags c xs ≡ 0
      → c < length at → ArePlaced tags (slice_set at c (length xs)) (xs ++ x ∷ [])
  placed_next at xs x c placed is none low b = elim (cases_eq b c) [
    | inl same ↦ subst (IsHere tags at xs x c) (sym same) here
    | inr apart ↦ other apart
  ]
    where
      here : IsHere tags at xs x c c
      here = omega (
        arith,
        none,
        count_both tags c xs (x ∷ []),
        sum_by-cons (λ y. occurrences c (tags y)) x [],
        ap (λ p. occurrences c (told tags (slice_get (xs ++ x ∷ []) p))) (get_or-set_same at c (length xs) 0 low),
        ap (occurrences c) (told_here tags c xs x),
      )

      other : (b ≡ c → ⊥) → IsHere tags at xs x c b
      other apart =
          let no : occurrences b (tags x) ≡ 0 = elim (occurrences-cons b c []) [
            | inl same ↦ absurd (apart (sym same.0))
            | inr it ↦ omega (arith, it.1, ap (occurrences b) is)
          ] in
          omega (
            arith,
            no,
            placed b,
            count_both tags b xs (x ∷ []),
            sum_by-cons (λ y. occurrences b (tags y)) x [],
            ap (λ p. occurrences b (told tags (slice_get (xs ++ x ∷ []) p))) (get_or-set_other at c b (length xs) 0 apart),
            told_other tags b xs x (slice_index_or at b 0) no,
          )

  -- a buffer that a word carries is below what its buffers are
  pub low_of : (n : ℕ) (x : T) (c : ℕ) → AreBelow tags n (x ∷ []) → tags x ≡ c ∷ [] → c < n
  low_of n x c below is = elim (below_or_not c n) [
    | inl lt ↦ lt
    | inr le ↦ absurd (omega (arith, below c le, sum_by-cons (λ y. occurrences c (tags y)) x [], ap (occurrences c) is, occurs_here c))
  ]

  pub low_in : (n : ℕ) (xs : List T) (i : ℕ) (x : T) (c : ℕ) → AreBelow tags n xs → slice_get xs i ≡ Some x → tags x ≡ c ∷ [] → c < n
  low_in n xs i x c below at is = elim (below_or_not c n) [
    | inl lt ↦ lt
    | inr le ↦ absurd (omega (arith, below c le, count_at tags c xs i x at, ap (occurrences c) is, occurs_here c))
  ]

  -- the next of words that carry no buffer twice carries none that those before it do
  pub new_in : (xs : List T) (i : ℕ) (x : T) (c : ℕ) → AreOnce tags xs → slice_get xs i ≡ Some x → tags x ≡ c ∷ [] → occurrences_in tags c (take i xs) ≡ 0
  new_in xs i x c once at is =
      omega (
        arith,
        once c,
        count_past tags c xs i x at,
        count_parts tags c (i + 1) xs,
        ap (occurrences c) is,
        occurs_here c,
      )

-- numbers of a list, one after the other
pub number_at : (numbers : List ℕ) (i d : ℕ) → i < length numbers → 0 < occurrences (slice_index_or numbers i d) numbers
number_at [] i d low = absurd (omega (arith, low))
number_at (x ∷ xs) zero d low = elim (occurrences-cons x x xs) [
  | inl same ↦ omega (arith, same.1)
  | inr apart ↦ absurd (apart.0 refl)
]
number_at (x ∷ xs) (suc i) d low = elim (occurrences-cons (slice_index_or xs i d) x xs) [
  | inl same ↦ omega (arith, same.1)
  | inr apart ↦ omega (arith, apart.1, number_at xs i d (omega (arith, low)))
]

pub number_next : (b : ℕ) (numbers : List ℕ) (i d : ℕ) → i < length numbers → 0 < occurrences b (take (i + 1) numbers)
    → (slice_index_or numbers i d ≡ b) ⊎ (0 < occurrences b (take i numbers))
number_next b numbers i d low some = by_test (slice_index_or numbers i d == b) refl
  where
    by_test : (t : Bool) → (slice_index_or numbers i d == b) ≡ t → (slice_index_or numbers i d ≡ b) ⊎ (0 < occurrences b (take i numbers))
    by_test true e = inl (grind (arith, nat_tests, e))
    by_test false e = inr (omega (arith, some, count_by_more_no (λ n. n == b) numbers i d low e))

-- the first of two runs
pub front_of : {T : Type 0} (w xs ys : List T) (n i : ℕ) → take (n + i) w ≡ xs ++ ys → length xs ≡ n → take n w ≡ xs
front_of w xs ys n i is long = sym (take-take n (n + i) w (omega arith)) ∙ (ap (take n) is ∙ take_at xs ys n long)
