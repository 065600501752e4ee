-- An address as the first bits and the others, with which a caller reads the entries.
use Rattle.std.proofs.Common.{◌≡◌, ℕ, ◌+◌, ◌-◌, ◌*◌, ◌%◌, ◌^◌, ◌<◌, sym, ap, ◌∙◌, subst}
use Rattle.std.proofs.lemmas.Nat.{shr_split, mod_below}
use Rattle.lpm.specs.Prefixes.{first_bits, size_of}
use Rattle.lpm.specs.Routes.{Routes, address_of}
use Rattle.lpm.proofs.Masks.{size_pos}

pub joined : (t : Routes) (bits a first low : ℕ) → bits ≡ t.bits → first ≡ first_bits a bits → low ≡ a % size_of bits
    → address_of t first low ≡ a
joined t bits a first low level ef el =
    ap (λ b. first * size_of b + low) (sym level) ∙ ap (λ f. f * size_of bits + low) ef
    ∙ ap (λ l. first_bits a bits * size_of bits + l) el ∙ shr_split a (32 - bits)

pub first_below : (t : Routes) (bits first : ℕ) → bits ≡ t.bits → first < 2 ^ bits → first < 2 ^ t.bits
first_below t bits first level k = subst (λ b. first < 2 ^ b) level k

pub low_below : (t : Routes) (bits a : ℕ) → bits ≡ t.bits → a % size_of bits < size_of t.bits
low_below t bits a level = subst (λ b. a % size_of bits < size_of b) level (mod_below a (size_of bits) (size_pos bits))
