-- A sum over four bytes at a time (RFC 1071, section 2 (C)).
use Rattle.std.proofs.Common.{◌≡◌, ℕ, ◌+◌, ◌*◌, ◌%◌, ◌^◌, ◌<◌, ◌≤◌, List, [], ◌∷◌, length, get_or, drop, arith, sym, ap, ◌∙◌}
use Rattle.ipv4.specs.Checksum.{ones_complement_sum, reduced}
use Rattle.ipv4.specs.Bytes.{AreBytes}
use Rattle.ipv4.proofs.Sums.{total_of, sum_reduced, reduced_same}

-- what is left to add makes, with what was added, the whole, except for a multiple of 65535
pub record IsSummed (bytes rest : List ℕ) (total : ℕ) : Type 0 where
  pub wraps : ℕ
  pub whole : total + total_of rest ≡ total_of bytes + 65535 * wraps
  pub none : total_of bytes ≡ 0 → total + total_of rest ≡ 0
  pub even : length rest % 2 ≡ 0
  pub bound : total + 2 ^ 30 * length rest ≤ 2 ^ 30 * length bytes

-- the number formed by four bytes
abbrev pub four_of : List ℕ → ℕ
four_of xs = get_or xs 0 0 * 16777216 + get_or xs 1 0 * 65536 + get_or xs 2 0 * 256 + get_or xs 3 0

pub summed_more : (bytes rest tail : List ℕ) (total next : ℕ) → IsSummed bytes rest total → 4 ≤ length rest → tail ≡ drop 4 rest → next ≡ total + four_of rest
    → four_of rest < 2 ^ 32
    → IsSummed bytes tail next
summed_more bytes [] tail total next so_far long e f small = absurd (omega arith)
summed_more bytes (a ∷ []) tail total next so_far long e f small = absurd (omega arith)
summed_more bytes (a ∷ b ∷ []) tail total next so_far long e f small = absurd (omega arith)
summed_more bytes (a ∷ b ∷ c ∷ []) tail total next so_far long e f small = absurd (omega arith)
summed_more bytes (a ∷ b ∷ c ∷ d ∷ rest) tail total next so_far long e f small =
    let left : total_of tail ≡ total_of rest = ap total_of e in
    let size : length tail ≡ length rest = ap length e in
    record {
      wraps = so_far.wraps + a * 256 + b;
      whole = omega (arith, so_far.whole);
      none = λ zero_sum. omega (arith, so_far.none zero_sum);
      even = omega (arith, so_far.even);
      bound = omega (arith, so_far.bound);
    }

pub two_left : (rest : List ℕ) → length rest ≡ 2 → total_of rest ≡ get_or rest 0 0 * 256 + get_or rest 1 0
two_left [] e = absurd (omega arith)
two_left (a ∷ []) e = absurd (omega arith)
two_left (a ∷ b ∷ []) e = omega arith
two_left (a ∷ b ∷ c ∷ rest) e = absurd (omega arith)

pub none_left : (rest : List ℕ) → length rest ≡ 0 → total_of rest ≡ 0
none_left [] e = omega arith
none_left (a ∷ rest) e = absurd (omega arith)

pub summed_all : (bytes rest : List ℕ) (total whole : ℕ) → IsSummed bytes rest total → whole ≡ total + total_of rest → AreBytes bytes
    → reduced whole ≡ ones_complement_sum bytes
summed_all bytes rest total whole so_far e all =
    reduced_same whole (total_of bytes) so_far.wraps (omega (arith, so_far.whole)) (λ zero_sum. omega (arith, so_far.none zero_sum))
    ∙ sym (sum_reduced bytes all)
