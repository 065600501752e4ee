-- Rows that are added element by element.
use Rattle.std.proofs.Common.{◌≡◌, ℕ, zero, suc, ◌+◌, ◌<◌, ◌≤◌, List, [], ◌∷◌, length, sum, take, get_or, refl, sym, ap, ap₂, ◌∙◌, arith, add-zero}
use Rattle.std.proofs.lemmas.List.{get_or-take}
use Rattle.std.proofs.lemmas.List.Sums.{sum_by-cons}
use Rattle.std.proofs.lemmas.Grind.{same_number_lists}
use Rattle.counters.specs.Tally.{added}

pub length-added : (xs ys : List ℕ) → length (added xs ys) ≡ length xs
length-added [] ys = refl
length-added (x ∷ xs) [] = refl
length-added (x ∷ xs) (y ∷ ys) = ap suc (length-added xs ys)

pub get_or-added : (xs ys : List ℕ) (k : ℕ) → k < length xs → get_or (added xs ys) k 0 ≡ get_or xs k 0 + get_or ys k 0
get_or-added [] ys k there = absurd (omega arith)
get_or-added (x ∷ xs) [] zero there = sym (add-zero x)
get_or-added (x ∷ xs) [] (suc k) there = sym (add-zero (get_or xs k 0))
get_or-added (x ∷ xs) (y ∷ ys) zero there = refl
get_or-added (x ∷ xs) (y ∷ ys) (suc k) there = get_or-added xs ys k (omega arith)

pub sum-cons : (x : ℕ) (xs : List ℕ) → sum (x ∷ xs) ≡ x + sum xs
sum-cons x xs = sum_by-cons (λ n. n) x xs

pub sum-added : (xs ys : List ℕ) → length ys ≡ length xs → sum (added xs ys) ≡ sum xs + sum ys
sum-added [] [] same = refl
sum-added [] (y ∷ ys) same = absurd (omega arith)
sum-added (x ∷ xs) [] same = absurd (omega arith)
sum-added (x ∷ xs) (y ∷ ys) same =
    omega (arith, sum-added xs ys (omega arith), sum-cons x xs, sum-cons y ys, sum-cons (x + y) (added xs ys))

pub get_or-le-sum : (xs : List ℕ) (k : ℕ) → k < length xs → get_or xs k 0 ≤ sum xs
get_or-le-sum [] k there = absurd (omega arith)
get_or-le-sum (x ∷ xs) zero there = omega (arith, sum-cons x xs)
get_or-le-sum (x ∷ xs) (suc k) there = omega (arith, sum-cons x xs, get_or-le-sum xs k (omega arith))

pub length-take-le : (n : ℕ) (xs : List ℕ) → n ≤ length xs → length (take n xs) ≡ n
length-take-le zero xs h = refl
length-take-le (suc n) [] h = absurd (omega arith)
length-take-le (suc n) (x ∷ xs) h = ap suc (length-take-le n xs (omega arith))

-- an element of the first n is at most their sum
pub place-le-sum : (xs : List ℕ) (n k : ℕ) → k < n → n ≤ length xs → get_or xs k 0 ≤ sum (take n xs)
place-le-sum xs n k below within =
    let long : length (take n xs) ≡ n = length-take-le n xs within in
    omega (arith, get_or-take n xs k 0 below, get_or-le-sum (take n xs) k (omega arith))

-- a row in which each of the first n elements is the sum of two
pub added_by_place : (row old other : List ℕ) (n : ℕ) → n ≤ length row → n ≤ length old
    → ((k : ℕ) → k < n → get_or row k 0 ≡ get_or old k 0 + get_or other k 0) → take n row ≡ added (take n old) (take n other)
added_by_place row old other n fits fits_old same =
    let long : length (take n row) ≡ n = length-take-le n row fits in
    let long_old : length (take n old) ≡ n = length-take-le n old fits_old in
    same_number_lists (take n row) (added (take n old) (take n other)) (long ∙ sym (length-added (take n old) (take n other) ∙ long_old))
    (λ k there.
    let below : k < n = omega arith in
    get_or-take n row k 0 below ∙ same k below
    ∙ sym (get_or-added (take n old) (take n other) k (omega arith) ∙ ap₂ (λ a b. a + b) (get_or-take n old k 0 below) (get_or-take n other k 0 below)))
