-- Powers of two: the least one above a number, and masks
use Rattle.std.proofs.Common.{◌≡◌, ◌≢◌, ℕ, zero, suc, ◌+◌, ◌-◌, ◌*◌, ◌/◌, ◌%◌, ◌^◌, ◌<◌, ◌≤◌, refl, sym, ap, subst, arith, inl, inr, ◌∙◌, bit_and, max, ◌==◌}
use Rattle.std.proofs.Common.{Ok, Err}
use Rattle.std.proofs.lemmas.Bool.{cases_lt, cases_order, lt-ltb, le-ltb, eq-eqb, ne_eqb}
use Rattle.std.proofs.lemmas.Nat.{and_mask}
use Rattle.std.proofs.Math.Pow.{pow_mono, pow-lt}
use Rattle.std.proofs.Math.Nat.{pow-suc, div-add-mod, mul-le-mul_left}
use Rattle.std.specs.Int.{IsPowerOfTwo}
use Rattle.geom.specs.Sizes.{power_above, size_of, is_power, power_gives, exact_gives}
use Rattle.geom.specs.Extent.{IsExtent, range_of}
use Rattle.geom.specs.declared.geometry.GeomFault.TheVariants.{NotPower}

-- half of a power of two is at least each smaller one
half_least : (k j : ℕ) → k < j → 2 ^ k ≤ 2 ^ j / 2
half_least k j h =
    let below : 2 ^ (suc k) ≤ 2 ^ j = pow_mono (omega arith) in
    let twice : 2 ^ (suc k) ≡ 2 ^ k * 2 = pow-suc 2 k in
    omega arith

-- the first power above n is the one whose half isn't above n
pub power_above-is : (steps k j n : ℕ) → k ≤ j → j ≤ k + steps → n < 2 ^ j → 2 ^ j / 2 ≤ n → power_above steps k n ≡ 2 ^ j
unfolding power_above
power_above-is zero k j n low high above least = let same : k ≡ j = omega arith in ap (λ i. 2 ^ i) same
power_above-is (suc steps) k j n low high above least =
    elim (cases_lt k j) [
      | inl before ↦
          let at : 2 ^ k ≤ n = let half = half_least k j before in omega arith in
          rw (le-ltb n (2 ^ k) at) (power_above-is steps (k + 1) j n (omega arith) (omega arith) above least)
      | inr after ↦
          let same : k ≡ j = omega arith in
          let over : n < 2 ^ k = subst (λ (i : ℕ). n < 2 ^ i) (sym same) above in
          rw (lt-ltb n (2 ^ k) over) (ap (λ i. 2 ^ i) same)
    ]

-- a power of two below 2 ^ 21 has an exponent of at most 20
exponent_small : (j : ℕ) → 2 ^ j < 2 ^ 21 → j ≤ 20
exponent_small j small =
    elim (cases_lt j 21) [
      | inl h ↦ omega arith
      | inr h ↦ let large : 2 ^ 21 ≤ 2 ^ j = pow_mono h in absurd (omega arith)
    ]

-- the next power of two from n + 1 on is the least size of a ring for n items
pub size_of-next : (n p : ℕ) → n < 2 ^ 20 → IsPowerOfTwo p → n + 1 ≤ p → p / 2 < max 1 (n + 1) → size_of n ≡ p
size_of-next n p small power lower upper =
    let e : p ≡ 2 ^ power.0 = power.1 in
    let least : 2 ^ power.0 / 2 ≤ n = omega arith in
    let bound : 2 ^ power.0 < 2 ^ 21 = omega arith in
    power_above-is 20 0 power.0 n (omega arith) (exponent_small power.0 bound) (omega arith) least ∙ sym e

-- a position's slot by a mask
pub slot_mask : (size position : ℕ) → IsPowerOfTwo size → bit_and position (size - 1) ≡ position % size
slot_mask size position power =
    subst (λ (n : ℕ). bit_and position (n - 1) ≡ position % n) (sym power.1) (and_mask position power.0)

-- two different numbers less than n apart have different remainders
pub mod_apart : (n a b : ℕ) → 0 < n → a < b → b < a + n → b % n ≢ a % n
mod_apart n a b some after near same =
    let a_is : n * (a / n) + a % n ≡ a = div-add-mod a n in
    let b_is : n * (b / n) + b % n ≡ b = div-add-mod b n in
    elim (cases_lt (a / n) (b / n)) [
      | inl up ↦ let more : n * suc (a / n) ≤ n * (b / n) = mul-le-mul_left n up in omega arith
      | inr down ↦ let less : n * (b / n) ≤ n * (a / n) = mul-le-mul_left n down in omega arith
    ]

-- the next power of two from a capacity's successor on is a size that a ring may have
pub next_extent : (n p : ℕ) → 0 < n → n < 2 ^ 20 → IsPowerOfTwo p → n + 1 ≤ p → p / 2 < max 1 (n + 1)
    → IsExtent record { size = p; capacity = n; last = 2 ^ 44 - 1; count_bits = 20 }
next_extent n p some small power lower upper =
    let e : p ≡ 2 ^ power.0 = power.1 in
    let bound : 2 ^ power.0 < 2 ^ 21 = omega arith in
    let within : 2 ^ power.0 ≤ 2 ^ 20 = pow_mono (exponent_small power.0 bound) in
    record { power = power; some = some; spare = omega arith; small = omega arith; counts = omega arith; shorter = omega arith; words = omega arith }

-- a power of two from 2 on is a size that a ring may have
pub power_extent : (n p : ℕ) → 1 < n → n ≤ 2 ^ 20 → IsPowerOfTwo p → p ≡ n
    → IsExtent record { size = n; capacity = n - 1; last = 2 ^ 44 - 1; count_bits = 20 }
power_extent n p some small power same =
    record { power = (power.0, sym same ∙ power.1); some = omega arith; spare = omega arith; small = small; counts = omega arith; shorter = omega arith; words = omega arith }

-- an exact capacity in range, and what it gives
pub exact_given : (n p : ℕ) → n ≢ 0 → n < 2 ^ 20 → IsPowerOfTwo p → n + 1 ≤ p → p / 2 < max 1 (n + 1)
    → Ok record { size = p; capacity = n; last = 2 ^ 44 - 1; count_bits = 20 } ≡ exact_gives n
exact_given n p some small power lower upper =
    rw (ne_eqb n 0 some, le-ltb (2 ^ 20 - 1) n (omega arith), size_of-next n p small power lower upper) refl

-- a count is a power of two exactly if it is the next one from itself on
is_power-next : (n p : ℕ) → 1 < n → n ≤ 2 ^ 20 → IsPowerOfTwo p → n ≤ p → p / 2 < max 1 n → is_power n ≡ (p == n)
is_power-next n p some small power lower upper =
    let before : size_of (n - 1) ≡ p = size_of-next (n - 1) p (omega arith) power (omega arith) (omega arith) in
    ap (λ s. s == n) before

-- a count that is the next power of two from itself on gives a ring
pub power_given : (n p : ℕ) → 1 < n → n ≤ 2 ^ 20 → IsPowerOfTwo p → n ≤ p → p / 2 < max 1 n → p ≡ n
    → Ok record { size = n; capacity = n - 1; last = 2 ^ 44 - 1; count_bits = 20 } ≡ power_gives n
power_given n p some small power lower upper same =
    rw (le-ltb n 2 (omega arith), le-ltb (2 ^ 20) n small, is_power-next n p some small power lower upper, eq-eqb p n same) refl

-- any other count gives an error
pub power_refused : (n p : ℕ) → 1 < n → n ≤ 2 ^ 20 → IsPowerOfTwo p → n ≤ p → p / 2 < max 1 n → p ≢ n
    → Err NotPower ≡ power_gives n
power_refused n p some small power lower upper other =
    rw (le-ltb n 2 (omega arith), le-ltb (2 ^ 20) n small, is_power-next n p some small power lower upper, ne_eqb p n other) refl

-- a power of two is the next one from itself on
pub next_self : (n p : ℕ) → 1 < n → IsPowerOfTwo p → n ≤ p → p / 2 < max 1 n → IsPowerOfTwo n → p ≡ n
next_self n p some power lower upper own =
    elim (cases_order own.0 power.0) [
      | inl same ↦ power.1 ∙ ap (λ i. 2 ^ i) (sym same) ∙ sym own.1
      | inr apart ↦ elim apart [
        | inl below ↦ let half = half_least own.0 power.0 below in let e = own.1 in let f = power.1 in absurd (omega arith)
        | inr above ↦ let more : 2 ^ power.0 < 2 ^ own.0 = pow-lt above in let e = own.1 in let f = power.1 in absurd (omega arith)
      ]
    ]
