-- The words of head/tail-sync sides: what was packed comes back, and 64 bits are enough
use Rattle.std.proofs.Common.{◌≡◌, ℕ, ◌+◌, ◌-◌, ◌*◌, ◌/◌, ◌%◌, ◌^◌, ◌<◌, ◌≤◌, arith, sym, ap, ◌∙◌, bit_and}
use Rattle.std.proofs.lemmas.Nat.{div-mul-add, mod-mul-add, div_below, and_mask, mod_below, pow_below, same_from_place}
use Rattle.std.proofs.Math.Nat.{mul-le-mul_left, div-add-mod}
use Rattle.std.proofs.Math.Pow.{pow_mono, pow-add}
use Rattle.geom.specs.Extent.{Extent, IsExtent, packed, range_of}

-- a word has room for a count of 0
pub range_some : (e : Extent) → 0 < range_of e
range_some e = let one : 2 ^ 0 ≤ 2 ^ e.count_bits = pow_mono (let none : 0 ≤ e.count_bits = omega arith in none) in omega arith

-- the position that was packed
pub position_back : (e : Extent) (p c : ℕ) → c < range_of e → (p * range_of e + c) / range_of e ≡ p
position_back e p c small = div-mul-add p (range_of e) c small

-- the count that was packed
pub count_back : (e : Extent) (p c : ℕ) → c < range_of e → (p * range_of e + c) % range_of e ≡ c
count_back e p c small = mod-mul-add p (range_of e) c small

-- a word is its position and its count
pub word_whole : (e : Extent) (word : ℕ) → word / range_of e * range_of e + word % range_of e ≡ word
word_whole e word = let whole : range_of e * (word / range_of e) + word % range_of e ≡ word = div-add-mod word (range_of e) in omega arith

-- one range more is one position more, and the same count
pub next_position : (e : Extent) (word : ℕ) → ((word + range_of e) / range_of e ≡ word / range_of e + 1) × ((word + range_of e) % range_of e ≡ word % range_of e)
next_position e word =
    let small : word % range_of e < range_of e = mod_below word (range_of e) (range_some e) in
    let is : word + range_of e ≡ (word / range_of e + 1) * range_of e + word % range_of e = omega (arith, word_whole e word) in (
      ap (λ n. n / range_of e) is ∙ position_back e (word / range_of e + 1) (word % range_of e) small,
      ap (λ n. n % range_of e) is ∙ count_back e (word / range_of e + 1) (word % range_of e) small,
    )

-- which fits below the greatest position
pub next_fits : (e : Extent) (word : ℕ) → (e.last + 1) * range_of e ≤ 2 ^ 64 → word / range_of e < e.last → word + range_of e < 2 ^ 64
next_fits e word words low =
    let wide : range_of e * (word / range_of e + 1) ≤ range_of e * e.last = mul-le-mul_left (range_of e) (omega (arith, low)) in
    let rest : word % range_of e < range_of e = mod_below word (range_of e) (range_some e) in
    omega (arith, words, wide, word_whole e word, rest)

-- words with nothing reserved, or with a count below the range, are the same only if their positions are
pub same_position : (e : Extent) (p q : ℕ) → p * range_of e ≡ q * range_of e → p ≡ q
same_position e p q same = (same_from_place p 0 q 0 (range_of e) (range_some e) (range_some e) (omega (arith, same))).0

pub same_packed : (e : Extent) (p c q d : ℕ) → c < range_of e → d < range_of e → p * range_of e + c ≡ q * range_of e + d → (p ≡ q) × (c ≡ d)
same_packed e p c q d small small' same = same_from_place p c q d (range_of e) small small' same

-- 64 bits have room for a position and a count of the ring
pub packed_exact : (e : Extent) (p c : ℕ) → (e.last + 1) * range_of e ≤ 2 ^ 64 → p ≤ e.last → c < range_of e → packed e p c ≡ p * range_of e + c
packed_exact e p c words low small =
    let wide : range_of e * p ≤ range_of e * e.last = mul-le-mul_left (range_of e) low in
    let fits : p * range_of e + c < 2 ^ 64 = omega (arith, words, wide, small) in
    omega (arith, fits)

-- a position has at most 63 bits, so that a position and a count don't overflow
pub last_small : (e : Extent) → IsExtent e → e.last < 2 ^ 63
last_small e extent =
    let two : 2 ^ 0 < 2 ^ e.count_bits = pow_below 0 e.count_bits extent.counts in
    let wide : (e.last + 1) * 2 ≤ (e.last + 1) * 2 ^ e.count_bits = mul-le-mul_left (e.last + 1) (omega arith) in
    let whole : (e.last + 1) * 2 ^ e.count_bits ≤ 2 ^ 64 = extent.words in
    omega arith

-- a greatest position that has room beside this many bits
pub words_fit : (last bits : ℕ) → bits ≤ 63 → last ≤ (2 ^ 64 - 1) / 2 ^ bits → (last + 1) * 2 ^ bits ≤ 2 ^ 64
words_fit last bits short low =
    let whole : 2 ^ (64 - bits) * 2 ^ bits ≡ 2 ^ 64 =
    sym (pow-add 2 (64 - bits) bits) ∙ ap (λ (n : ℕ). 2 ^ n) (let sum : (64 - bits) + bits ≡ 64 = omega arith in sum) in
    let some : 2 ^ 0 ≤ 2 ^ bits = pow_mono (let none : 0 ≤ bits = omega arith in none) in
    let below : (2 ^ 64 - 1) / 2 ^ bits < 2 ^ (64 - bits) = div_below (2 ^ 64 - 1) (2 ^ bits) (2 ^ (64 - bits)) (omega arith) (omega arith) in
    let wide : 2 ^ bits * (last + 1) ≤ 2 ^ bits * 2 ^ (64 - bits) = mul-le-mul_left (2 ^ bits) (omega arith) in
    omega arith

-- a ring that may be is one with these positions, too
pub set_positions : (e : Extent) (last bits : ℕ) → IsExtent e → 0 < bits → bits ≤ 63 → last ≤ (2 ^ 64 - 1) / 2 ^ bits
    → IsExtent record { size = e.size; capacity = e.capacity; last = last; count_bits = bits }
set_positions e last bits extent some short low = record {
  power = extent.power;
  some = extent.some;
  spare = extent.spare;
  small = extent.small;
  counts = some;
  shorter = omega arith;
  words = words_fit last bits short low;
}

-- the shifts and the mask of the code
pub packed_by : (e : Extent) (p c b : ℕ) → b ≡ e.count_bits → ((p * 2 ^ b) % 2 ^ 64 + c) % 2 ^ 64 ≡ packed e p c
packed_by e p c b is =
    let same : p * 2 ^ b ≡ p * range_of e = ap (λ (n : ℕ). p * 2 ^ n) is in
    omega (arith, same)

pub one_shifted : (e : Extent) (b : ℕ) → IsExtent e → b ≡ e.count_bits → (1 * 2 ^ b) % 2 ^ 64 ≡ range_of e
one_shifted e b extent is =
    let small : 2 ^ e.count_bits < 2 ^ 64 = pow_below e.count_bits 64 extent.shorter in
    let as_bits : 2 ^ b ≡ 2 ^ e.count_bits = ap (λ (n : ℕ). 2 ^ n) is in
    omega arith

pub masked : (e : Extent) (word range : ℕ) → range ≡ range_of e → bit_and word (range - 1) ≡ word % range_of e
masked e word range is =
    let same : range - 1 ≡ 2 ^ e.count_bits - 1 = omega arith in
    ap (bit_and word) same ∙ and_mask word e.count_bits

pub divided : (e : Extent) (word b : ℕ) → b ≡ e.count_bits → word / 2 ^ b ≡ word / range_of e
divided e word b is = ap (λ (n : ℕ). word / 2 ^ n) is
