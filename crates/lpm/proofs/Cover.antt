-- Which places a prefix covers: a run of whole entries, or a run within one entry's group.
use Rattle.std.proofs.Common.{◌≡◌, ℕ, ◌+◌, ◌-◌, ◌*◌, ◌/◌, ◌%◌, ◌^◌, ◌≤◌, ◌<◌, sym, ap, ◌∙◌, subst, arith}
use Rattle.std.proofs.lemmas.Nat.{pow_pos, pow-add, shl-shr, shr_split, div-mul-add, mod_below, shr_below}
use Rattle.std.proofs.Math.Nat.{mul_assoc}
use Rattle.lpm.specs.Prefixes.{size_of, first_bits, masked}
use Rattle.lpm.proofs.Masks.{size_pos, first_bits-shallower, shared_shallower, shared_from_masked, masked_le, below_next, masked_among}
use Rattle.lpm.proofs.GroupOverwrites.{group_span}

pub first_bits-place : (bits i low : ℕ) → low < size_of bits → first_bits (i * size_of bits + low) bits ≡ i
first_bits-place bits i low h = div-mul-add i (size_of bits) low h

-- a quotient and its dividend
quotient_is : (i q t : ℕ) → q * t ≤ i → i < q * t + t → i / t ≡ q
quotient_is i q t low high =
    let r : ℕ = i - q * t in
    let is : i ≡ q * t + r = omega arith in
    ap (λ n. n / t) is ∙ div-mul-add q t r (omega arith)

-- a prefix no deeper than the first level
module _ (address depth bits : ℕ) (is_masked : masked address depth ≡ address) (shallow : depth ≤ bits) (most : bits ≤ 32) where
  run : ℕ
  run = 2 ^ (bits - depth)

  first_is : first_bits address bits ≡ first_bits address depth * run
  unfolding run
  first_is =
      let q : ℕ = first_bits address depth in
      let sums : 32 - depth ≡ (bits - depth) + (32 - bits) = omega arith in
      let product : address ≡ q * run * size_of bits =
      sym is_masked ∙ ap (λ n. q * 2 ^ n) sums ∙ ap (λ n. q * n) (pow-add 2 (bits - depth) (32 - bits))
      ∙ sym (mul_assoc q run (size_of bits)) in
      ap (λ n. n / size_of bits) product ∙ shl-shr (q * run) (32 - bits)

  pub entries_fit : address < 2 ^ 32 → depth ≤ 32 → first_bits address bits + 2 ^ (bits - depth) ≤ 2 ^ bits
  unfolding run
  entries_fit below deep =
      let q : ℕ = first_bits address depth in
      let whole : 32 ≡ depth + (32 - depth) = omega arith in
      let small : q < 2 ^ depth = shr_below address depth (32 - depth) (subst (λ n. address < 2 ^ n) whole below) in
      let sums : depth + (bits - depth) ≡ bits = omega arith in
      let span = group_span q (2 ^ depth) run small (pow_pos (bits - depth)) in
      let top : 2 ^ depth * run ≡ 2 ^ bits = sym (pow-add 2 depth (bits - depth)) ∙ ap (λ n. 2 ^ n) sums in
      omega (arith, first_is)

  module _ (i low : ℕ) (fits : low < size_of bits) where
    bits_here : first_bits (i * size_of bits + low) depth ≡ i / run
    unfolding run
    bits_here = first_bits-shallower _ bits depth shallow most ∙ ap (λ n. n / 2 ^ (bits - depth)) (first_bits-place bits i low fits)

    pub entry_covered : first_bits address bits ≤ i → i < first_bits address bits + 2 ^ (bits - depth)
        → masked (i * size_of bits + low) depth ≡ address
    unfolding run
    entry_covered low_i high_i =
        let q : ℕ = first_bits address depth in
        let same : i / run ≡ q = quotient_is i q run (omega (arith, first_is)) (omega (arith, first_is)) in
        ap (λ n. n * size_of depth) (bits_here ∙ same) ∙ is_masked

    pub entry_from_covered : masked (i * size_of bits + low) depth ≡ address → (first_bits address bits ≤ i)
        × (i < first_bits address bits + 2 ^ (bits - depth))
    unfolding run
    entry_from_covered e =
        let q : ℕ = first_bits address depth in
        let same : i / run ≡ q = sym bits_here ∙ shared_from_masked _ address depth (e ∙ sym is_masked) in
        let split = shr_split i (bits - depth) in
        let rest = mod_below i run (pow_pos (bits - depth)) in
        let product = ap (λ n. n * run) same in
        (omega (arith, first_is), omega (arith, first_is))

-- a deeper prefix
module _ (address depth bits : ℕ) (is_masked : masked address depth ≡ address) (deep : bits < depth) (most : depth ≤ 32) where
  address_is : first_bits address bits * size_of bits + address % size_of bits ≡ address
  address_is = shr_split address (32 - bits)

  pub within_fits : address % size_of bits + size_of depth ≤ size_of bits
  within_fits =
      let last : ℕ = address + (size_of depth - 1) in
      let pos = size_pos depth in
      let held : masked last depth ≡ masked address depth = masked_among last address depth (omega (arith, is_masked))
      (omega (arith, is_masked)) in
      let same = shared_shallower last address depth bits (shared_from_masked last address depth held) (omega arith) most in
      let split = shr_split last (32 - bits) in
      let rest = mod_below last (size_of bits) (size_pos bits) in
      let product = ap (λ n. n * size_of bits) same in
      omega (arith, address_is)

  module _ (i low : ℕ) (fits : low < size_of bits) where
    pub within_covered : i ≡ first_bits address bits → address % size_of bits ≤ low → low < address % size_of bits + size_of depth
        → masked (i * size_of bits + low) depth ≡ address
    within_covered same low_from low_to =
        let product = ap (λ n. n * size_of bits) same in
        masked_among _ address depth (omega (arith, is_masked, address_is)) (omega (arith, is_masked, address_is)) ∙ is_masked

    pub entry_from_within : masked (i * size_of bits + low) depth ≡ address → i ≡ first_bits address bits
    entry_from_within e =
        sym (first_bits-place bits i low fits) ∙ shared_shallower _ address depth bits
        (shared_from_masked _ address depth (e ∙ sym is_masked)) (omega arith) most

    pub low_from_within : masked (i * size_of bits + low) depth ≡ address → (address % size_of bits ≤ low)
        × (low < address % size_of bits + size_of depth)
    low_from_within e =
        let product = ap (λ n. n * size_of bits) (entry_from_within e) in
        let under = masked_le (i * size_of bits + low) depth in
        let over = below_next (i * size_of bits + low) depth in
        (omega (arith, e, address_is), omega (arith, e, address_is))

-- the addresses of a prefix are below 2^32
pub prefix_within : (address depth : ℕ) → address < 2 ^ 32 → depth ≤ 32 → masked address depth + size_of depth ≤ 2 ^ 32
prefix_within address depth below most =
    let whole : 32 ≡ depth + (32 - depth) = omega arith in
    let small : first_bits address depth < 2 ^ depth = shr_below address depth (32 - depth) (subst (λ n. address < 2 ^ n) whole below) in
    let span = group_span (first_bits address depth) (2 ^ depth) (size_of depth) small (size_pos depth) in
    let top : 2 ^ depth * size_of depth ≡ 2 ^ 32 = sym (pow-add 2 depth (32 - depth)) ∙ ap (λ n. 2 ^ n) (sym whole) in
    omega arith
