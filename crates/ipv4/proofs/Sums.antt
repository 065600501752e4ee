-- A one's complement sum is the sum, reduced by a multiple of 65535.
use Rattle.std.proofs.Common.{◌≡◌, ℕ, suc, ◌+◌, ◌-◌, ◌*◌, ◌/◌, ◌%◌, ◌<◌, ◌≤◌, List, [], ◌∷◌, ap, ◌∙◌, inl, inr, ◌⊎◌, arith}
use Rattle.std.specs.List.{fold}
use Rattle.std.proofs.lemmas.Bool.{cases_eq}
use Rattle.std.proofs.lemmas.Bool.Decides.{nat_tests}
use Rattle.ipv4.specs.Bytes.{AreBytes}
use Rattle.ipv4.specs.Checksum.{words_of, ones_complement_add, ones_complement_sum, reduced}

-- the sum of the 16-bit numbers
abbrev pub total_of : List ℕ → ℕ
total_of [] = 0
total_of (high ∷ []) = high * 256
total_of (high ∷ low ∷ bytes) = high * 256 + low + total_of bytes

reduced-zero : (n : ℕ) → n ≡ 0 → reduced n ≡ 0
unfolding reduced
reduced-zero n e = grind (arith, nat_tests)

reduced-some : (n : ℕ) → 0 < n → reduced n ≡ (n - 1) % 65535 + 1
unfolding reduced
reduced-some n h = grind (arith, nat_tests)

pub reduced-is : (n : ℕ) → ((n ≡ 0) × (reduced n ≡ 0)) ⊎ ((0 < n) × (reduced n ≡ (n - 1) % 65535 + 1))
reduced-is n =
    elim (cases_eq n 0) [
      | inl none ↦ inl (none, reduced-zero n none)
      | inr some ↦ inr (omega arith, reduced-some n (omega arith))
    ]

-- which number that is
pub reduced_to : (n r k : ℕ) → n ≡ r + 65535 * k → r ≤ 65535 → (r ≡ 0 → n ≡ 0) → r ≡ reduced n
reduced_to n r k e most none =
    elim (cases_eq r 0) [
      | inl zero_sum ↦ let zero_whole = none zero_sum in omega (arith, reduced-is n)
      | inr some ↦ omega (arith, reduced-is n)
    ]

-- numbers that differ by a multiple of 65535
pub reduced_same : (n m k : ℕ) → n ≡ m + 65535 * k → (m ≡ 0 → n ≡ 0) → reduced n ≡ reduced m
reduced_same n m k e none =
    elim (cases_eq m 0) [
      | inl zero_sum ↦ let zero_whole = none zero_sum in ap reduced (omega arith)
      | inr some ↦ omega (arith, reduced-is n, reduced-is m)
    ]

add_reduced : (x y : ℕ) → x ≤ 65535 → y ≤ 65535 → ones_complement_add x y ≡ reduced (x + y)
add_reduced x y h k = reduced_to (x + y) _ ((x + y) / 65536) (omega arith) (omega arith) (λ e. omega arith)

one_more : (n w : ℕ) → w ≤ 65535 → ones_complement_add (reduced n) w ≡ reduced (n + w)
one_more n w h = omega (arith, add_reduced (reduced n) w (omega (arith, reduced-is n)) h, reduced-is n, reduced-is (n + w), reduced-is (reduced n + w))

fold_reduced : (bytes : List ℕ) (n : ℕ) → AreBytes bytes → fold ones_complement_add (reduced n) (words_of bytes) ≡ reduced (n + total_of bytes)
fold_reduced [] n all = ap reduced (omega arith)
fold_reduced (high ∷ []) n all = one_more n (high * 256) (omega (arith, all 0))
fold_reduced (high ∷ low ∷ bytes) n all =
    let word = high * 256 + low in
    ap (λ r. fold ones_complement_add r (words_of bytes)) (one_more n word (omega (arith, all 0, all 1)))
    ∙ fold_reduced bytes (n + word) (λ k. all (suc (suc k)))
    ∙ ap reduced (omega arith)

pub sum_reduced : (bytes : List ℕ) → AreBytes bytes → ones_complement_sum bytes ≡ reduced (total_of bytes)
unfolding ones_complement_sum reduced
sum_reduced bytes all = fold_reduced bytes 0 all ∙ ap reduced (omega arith)
