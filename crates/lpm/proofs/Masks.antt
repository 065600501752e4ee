-- How an address's first bits relate to each other.
use Rattle.std.proofs.Common.{◌≡◌, ℕ, ◌+◌, ◌-◌, ◌*◌, ◌/◌, ◌^◌, ◌≤◌, ◌<◌, sym, ap, ◌∙◌, arith}
use Rattle.std.proofs.lemmas.Nat.{pow_pos, shl-shr, shr-shr, shr_split, div-mul-add, mod_below}
use Rattle.lpm.specs.Prefixes.{size_of, first_bits, masked}

pub size_pos : (depth : ℕ) → 0 < size_of depth
size_pos depth = pow_pos (32 - depth)

-- fewer first bits are the first of more
pub first_bits-shallower : (a d e : ℕ) → e ≤ d → d ≤ 32 → first_bits a e ≡ first_bits a d / 2 ^ (d - e)
first_bits-shallower a d e h k =
    let sums : (32 - d) + (d - e) ≡ 32 - e = omega arith in
    ap (λ n. a / 2 ^ n) (sym sums) ∙ sym (shr-shr a (32 - d) (d - e))

-- addresses that share their first d bits share fewer
pub shared_shallower : (a b d e : ℕ) → first_bits a d ≡ first_bits b d → e ≤ d → d ≤ 32 → first_bits a e ≡ first_bits b e
shared_shallower a b d e same h k =
    first_bits-shallower a d e h k ∙ ap (λ n. n / 2 ^ (d - e)) same ∙ sym (first_bits-shallower b d e h k)

pub first_bits-masked : (a d : ℕ) → first_bits (masked a d) d ≡ first_bits a d
first_bits-masked a d = shl-shr (first_bits a d) (32 - d)

pub masked-masked : (a d : ℕ) → masked (masked a d) d ≡ masked a d
masked-masked a d = ap (λ n. n * size_of d) (first_bits-masked a d)

pub shared_from_masked : (a b d : ℕ) → masked a d ≡ masked b d → first_bits a d ≡ first_bits b d
shared_from_masked a b d e = sym (first_bits-masked a d) ∙ ap (λ n. first_bits n d) e ∙ first_bits-masked b d

pub masked_le : (a d : ℕ) → masked a d ≤ a
masked_le a d = omega (arith, shr_split a (32 - d))

-- an address is among those of its prefix
pub below_next : (a d : ℕ) → a < masked a d + size_of d
below_next a d = omega (arith, shr_split a (32 - d), mod_below a (size_of d) (size_pos d))

-- and what is among those of a prefix has that prefix
pub masked_among : (a x d : ℕ) → masked x d ≤ a → a < masked x d + size_of d → masked a d ≡ masked x d
masked_among a x d low high =
    let q : ℕ = first_bits x d in
    let r : ℕ = a - masked x d in
    let is : a ≡ q * size_of d + r = omega arith in
    ap (λ n. n * size_of d) (ap (λ n. n / size_of d) is ∙ div-mul-add q (size_of d) r (omega arith))
