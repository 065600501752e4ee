-- The numbers of fresh segments.
use Rattle.std.proofs.Common.{◌≡◌, ◌+◌, ◌<◌, ◌==◌, ℕ, zero, suc, inl, inr, List, [], ◌∷◌, map, refl, ap, ◌∙◌, subst, sym, arith}
use Rattle.std.specs.List.{range_with_len}
use Rattle.std.proofs.lemmas.Bool.Decides.{eqb_tells}
use Rattle.std.proofs.lemmas.List.Sums.{sum_by-cons}
use Rattle.burst.specs.Numbers.{times, AreDistinct}
use Rattle.mbuf.specs.Buffer.{Buffer, made}
use Rattle.mbuf.specs.Chain.{all_numbers, made_all}
use Rattle.mbuf.proofs.Entries.{one_if}

abbrev is : ℕ → ℕ → ℕ
is b n = one_if (n == b)

above : (b first count : ℕ) → b < first → times b (range_with_len first count) ≡ 0
above b first zero below = refl
above b first (suc count) below = elim (eqb_tells first b) [
  | inl same ↦ absurd (omega (arith, same.1))
  | inr else ↦ omega (arith, sum_by-cons (is b) first (range_with_len (first + 1) count), ap one_if else.0, above b (first + 1) count (omega arith))
]

pub range_distinct : (first count : ℕ) → AreDistinct (range_with_len first count)
range_distinct first zero b = omega arith
range_distinct first (suc count) b = elim (eqb_tells first b) [
  | inl same ↦ omega (arith, sum_by-cons (is b) first (range_with_len (first + 1) count), ap one_if same.0, above b (first + 1) count (omega (arith, same.1)))
  | inr else ↦ omega (arith, sum_by-cons (is b) first (range_with_len (first + 1) count), ap one_if else.0, range_distinct (first + 1) count b)
]

pub numbers_made : (headroom room count : ℕ) (chains : List (List Buffer)) → chains ≡ made_all headroom room count → all_numbers chains ≡ range_with_len 0 count
numbers_made headroom room count chains e = ap all_numbers e ∙ each (range_with_len 0 count)
  where
    each : (numbers : List ℕ) → all_numbers (map (λ number. made headroom room number ∷ []) numbers) ≡ numbers
    each [] = refl
    each (number ∷ numbers) = ap (λ (l : List ℕ). number ∷ l) (each numbers)

pub numbers_apart : (headroom room count : ℕ) (chains : List (List Buffer)) → chains ≡ made_all headroom room count → AreDistinct (all_numbers chains)
numbers_apart headroom room count chains e = subst AreDistinct (sym (numbers_made headroom room count chains e)) (range_distinct 0 count)
