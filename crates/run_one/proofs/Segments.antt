-- Fresh segments in a row: those from a number on, as one chain.
use Rattle.std.proofs.Common.{◌≡◌, ◌≤◌, ℕ, zero, suc, ◌+◌, ◌-◌, ◌*◌, List, [], ◌∷◌, ◌++◌, length, length-append, map, refl, sym, ap, ◌∙◌, subst, arith}
use Rattle.std.specs.List.{range_with_len}
use Rattle.std.proofs.lemmas.List.FromFn.{length-map-range_with_len}
use Rattle.std.proofs.lemmas.List.{map-append}
use Rattle.std.proofs.lemmas.List.Sums.{sum_by-cons}
use Rattle.burst.specs.Numbers.{AreDistinct}
use Rattle.mbuf.specs.Buffer.{Buffer, made, room_of}
use Rattle.mbuf.specs.Chain.{made_all, numbers_of, space_of}
use Rattle.mbuf.proofs.Made.{range_distinct}

-- the segments of n numbers, from the first on
abbrev pub row : ℕ → ℕ → ℕ → ℕ → List Buffer
row headroom room first n = map (made headroom room) (range_with_len first n)

-- the last of several
range-last : (first n : ℕ) → range_with_len first (suc n) ≡ range_with_len first n ++ (first + n) ∷ []
range-last first zero = let e : first ≡ first + 0 = omega arith in ap (λ k. k ∷ []) e
range-last first (suc n) =
    let e : (first + 1) + n ≡ first + suc n = omega arith in
    ap (λ l. first ∷ l) (range-last (first + 1) n) ∙ ap (λ k. first ∷ (range_with_len (first + 1) n ++ k ∷ [])) e

pub made-last : (headroom room n : ℕ) → made_all headroom room (suc n) ≡ made_all headroom room n ++ (made headroom room n ∷ []) ∷ []
made-last headroom room n =
    let e : 0 + n ≡ n = omega arith in
    ap (map (λ number. made headroom room number ∷ [])) (range-last 0 n ∙ ap (λ k. range_with_len 0 n ++ k ∷ []) e)
    ∙ map-append (λ number. made headroom room number ∷ []) (range_with_len 0 n) (n ∷ [])

snoc : {A : Type 0} (xs ys : List A) (x y : A) → xs ++ x ∷ [] ≡ ys ++ y ∷ [] → (xs ≡ ys) × (x ≡ y)
snoc [] [] x y e = (refl, cc e)
snoc [] (z ∷ ys) x y e = absurd (omega (arith, ap length e, length-append ys (y ∷ [])))
snoc (z ∷ xs) [] x y e = absurd (omega (arith, ap length e, length-append xs (x ∷ [])))
snoc (z ∷ xs) (w ∷ ys) x y e =
    let head : z ≡ w = cc e in
    let tail : xs ++ x ∷ [] ≡ ys ++ y ∷ [] = cc e in
    let rest = snoc xs ys x y tail in
    ((λ k. head k ∷ rest.0 k), rest.1)

-- the last of those made was taken off
pub last-made : (headroom room m : ℕ) (xs : List (List Buffer)) (x : List Buffer) → xs ++ x ∷ [] ≡ made_all headroom room m
    → (m ≡ length xs + 1) × (xs ≡ made_all headroom room (length xs)) × (x ≡ row headroom room (length xs) 1)
last-made headroom room zero xs x e = absurd (omega (arith, ap length e, length-append xs (x ∷ [])))
last-made headroom room (suc n) xs x e =
    let parts = snoc xs (made_all headroom room n) x (made headroom room n ∷ []) (e ∙ made-last headroom room n) in
    let long : length xs ≡ n = ap length parts.0 ∙ length-map-range_with_len (λ number. made headroom room number ∷ []) 0 n in
    (omega (arith, long), parts.0 ∙ ap (made_all headroom room) (sym long), parts.1 ∙ ap (λ k. row headroom room k 1) (sym long))

-- one segment before those after it
pub row-joined : (headroom room n m count : ℕ) → m ≡ n + 1 → m ≤ count
    → row headroom room n 1 ++ row headroom room m (count - m) ≡ row headroom room n (count - n)
row-joined headroom room n m count same fits =
    let e : suc (count - m) ≡ count - n = omega (arith, same, fits) in
    ap (λ k. made headroom room n ∷ row headroom room k (count - m)) same ∙ ap (row headroom room n) e

pub numbers-row : (headroom room first n : ℕ) → numbers_of (row headroom room first n) ≡ range_with_len first n
numbers-row headroom room first zero = refl
numbers-row headroom room first (suc n) = ap (λ l. first ∷ l) (numbers-row headroom room (first + 1) n)

pub row-apart : (headroom room first n : ℕ) → AreDistinct (numbers_of (row headroom room first n))
row-apart headroom room first n = subst AreDistinct (sym (numbers-row headroom room first n)) (range_distinct first n)

pub row-long : (headroom room first n : ℕ) → length (row headroom room first n) ≡ n
row-long headroom room first n = length-map-range_with_len (made headroom room) first n

pub joined-apart : (headroom room n m count : ℕ) (x whole : List Buffer) → m ≡ n + 1 → m ≤ count → x ≡ row headroom room n 1
    → whole ≡ row headroom room m (count - m) → AreDistinct (numbers_of x ++ numbers_of whole)
joined-apart headroom room n m count x whole same fits one others =
    subst AreDistinct (sym (sym (map-append (λ b. b.number) x whole) ∙ ap numbers_of ((λ k. one k ++ others k) ∙ row-joined headroom room n m count same fits)))
    (row-apart headroom room n (count - n))

pub row-space : (headroom room first n : ℕ) → space_of (row headroom room first n) ≡ n * room
row-space headroom room first zero = omega arith
row-space headroom room first (suc n) =
    omega (arith, sum_by-cons room_of (made headroom room first) (row headroom room (first + 1) n), row-space headroom room (first + 1) n)
