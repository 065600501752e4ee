-- If no deeper member shares an address's first bits, its longest match is that of all such addresses.
use Rattle.std.proofs.Common.{◌≡◌, ℕ, zero, suc, ◌-◌, ◌≤◌, ◌<◌, true, false, Option, Some, None, refl, sym, ap, ◌∙◌, inl, inr, ◌⊎◌, arith}
use Rattle.std.proofs.lemmas.Bool.{cases_lt}
use Rattle.std.proofs.lemmas.Bool.Decides.{nat_tests}
use Rattle.std.specs.FinMap as map
use Rattle.lpm.specs.TableEntry.{is_group}
use Rattle.lpm.specs.Prefixes.{Members, prefix_of, masked, first_bits}
use Rattle.lpm.specs.Match.{longest}
use Rattle.lpm.specs.Groups.{has_deeper}
use Rattle.lpm.proofs.Masks.{first_bits-masked, shared_shallower}
use Rattle.lpm.proofs.Longest.{longest-depth, longest-shared, longest-shorter, longest-deeper, ChangesAt}
use Rattle.lpm.proofs.Firsts.{deeper_has}

none_or_some : (w : Option ℕ) → (w ≡ None) ⊎ ((h : ℕ) × (w ≡ Some h))
none_or_some None = inl refl
none_or_some (Some h) = inr (h, refl)

pub longest-shallow : (m : Members) (a bits n : ℕ) → has_deeper bits m (first_bits a bits) ≡ false → bits ≤ n → n ≤ 32
    → longest m a n ≡ longest m a bits
longest-shallow m a bits zero none low high = let same : 0 ≡ bits = omega arith in ap (longest m a) same
longest-shallow m a bits (suc n) none low high =
    elim (cases_lt bits (suc n)) [
      | inr same ↦ let e : suc n ≡ bits = omega arith in ap (longest m a) e
      | inl deeper ↦ elim (none_or_some (map.get m (prefix_of a (suc n)))) [
        | inl missing ↦
            let shorter : suc n - 1 ≡ n = omega arith in
            longest-shorter m a (suc n) (omega arith) missing ∙ ap (longest m a) shorter
            ∙ longest-shallow m a bits n none (omega arith) (omega arith)
        | inr found ↦
            let among = shared_shallower (masked a (suc n)) a (suc n) bits (first_bits-masked a (suc n)) (omega arith) high in
            let has : has_deeper bits m (first_bits a bits) ≡ true =
            deeper_has bits m (first_bits a bits) (record
            { prefix = prefix_of a (suc n); hop = found.0; member = found.1; deeper = deeper; among = among }) in
            cc
      ]
    ]

-- a longest match names no group
pub longest_plain : (m : Members) (a n : ℕ) → n ≤ 32 → is_group (longest m a n) ≡ false
longest_plain m a n h = let depth = longest-depth m a n in grind (arith, nat_tests)

-- without a member, what replaces it where it was is the longest shorter one
pub next_shorter : (m m' : Members) (x d : ℕ) (w : Option ℕ) → ChangesAt m m' (prefix_of x d) w → 0 < d → d ≤ 32 → (a : ℕ)
    → masked a d ≡ masked x d → longest m' x (d - 1) ≡ longest m a (d - 1)
next_shorter m m' x d w change pos most a e =
    let same = first_bits-masked x d in
    let shared : first_bits x d ≡ first_bits a d = sym (first_bits-masked x d) ∙ ap (λ n. first_bits n d) (sym e) ∙ first_bits-masked a d in
    longest-deeper m m' x d w change x (d - 1) (omega arith)
    ∙ longest-shared m x a (d - 1) (shared_shallower x a d (d - 1) shared (omega arith) most) (omega arith)
