-- The members deeper than the first level that share their first bits are between two prefixes.
use Rattle.std.proofs.Common.{◌≡◌, ℕ, ◌+◌, ◌-◌, ◌*◌, ◌≤◌, ◌<◌, Bool, true, false, Some, refl, sym, ap, ◌∙◌, inl, inr, ◌⊎◌, arith}
use Rattle.std.proofs.lemmas.Bool.{cases_lt}
use Rattle.std.proofs.lemmas.Cmp.{ranked}
use Rattle.std.specs.Cmp.{both_ways}
use Rattle.std.specs.Ordering.{nat_cmp, is_gt, ordering_then, MatchOrdering}
use Rattle.std.specs.declared.cmp.Ordering.{Ordering}
use Rattle.std.specs.declared.cmp.Ordering.TheVariants.{Less, Equal, Greater}
use Rattle.std.specs.Bool.{OnTrue, OnFalse}
use Rattle.std.specs.BTreeMap.Range.{IsLeBy}
use Rattle.std.specs.FinMap as map
use Rattle.lpm.specs.declared.prefix.Prefix.{Prefix}
use Rattle.lpm.specs.Prefixes.{Members, AreMembers, prefix_cmp, masked, first_bits, size_of}
use Rattle.lpm.specs.Between.{IsBetween, SomeBetween, NoneBetween}
use Rattle.lpm.specs.Groups.{has_deeper, HasDeeper}
use Rattle.lpm.proofs.Masks.{size_pos, first_bits-masked, masked_le, below_next, masked_among, shared_shallower, shared_from_masked}
use Rattle.lpm.proofs.Firsts.{deeper_has, has_deeper_is}

-- a pair is at most another if its first part is smaller, or the same and its second at most the other's
abbrev pub IsLePair : ℕ → ℕ → ℕ → ℕ → Type 0
IsLePair a b c d = (a < b) ⊎ ((a ≡ b) × (c ≤ d))

le_pair : (a b c d : ℕ) (r s : Ordering) → MatchOrdering r (a < b) (a ≡ b) (b < a) → MatchOrdering s (c < d) (c ≡ d) (d < c)
    → is_gt (ordering_then r s) ≡ false → IsLePair a b c d
le_pair a b c d Less s h k e = inl h
le_pair a b c d Equal Less h k e = inr (h, omega arith)
le_pair a b c d Equal Equal h k e = inr (h, omega arith)
le_pair a b c d Equal Greater h k e = cc
le_pair a b c d Greater s h k e = cc

pair_le : (a b c d : ℕ) (r s : Ordering) → MatchOrdering r (a < b) (a ≡ b) (b < a) → MatchOrdering s (c < d) (c ≡ d) (d < c)
    → IsLePair a b c d → is_gt (ordering_then r s) ≡ false
pair_le a b c d Less s h k e = refl
pair_le a b c d Equal Less h k e = refl
pair_le a b c d Equal Equal h k e = refl
pair_le a b c d Equal Greater h k e = elim e [ inl less ↦ absurd (omega arith) | inr same ↦ absurd (omega (arith, same.1)) ]
pair_le a b c d Greater s h k e = elim e [ inl less ↦ absurd (omega arith) | inr same ↦ absurd (omega (arith, same.0)) ]

from_le : (p q : Prefix) → IsLeBy prefix_cmp p q → IsLePair p.address q.address p.depth q.depth
from_le p q e = le_pair _ _ _ _ (nat_cmp p.address q.address) (nat_cmp p.depth q.depth) (ranked p.address q.address _ refl)
    (ranked p.depth q.depth _ refl) e

pub to_le : (p q : Prefix) → IsLePair p.address q.address p.depth q.depth → IsLeBy prefix_cmp p q
to_le p q h = pair_le _ _ _ _ (nat_cmp p.address q.address) (nat_cmp p.depth q.depth) (ranked p.address q.address _ refl)
    (ranked p.depth q.depth _ refl) h

-- the least and the greatest of the prefixes deeper than `bits` that share the address's first bits
abbrev pub least_deeper : ℕ → ℕ → Prefix
least_deeper address bits = record { address = masked address bits; depth = bits + 1 }

abbrev pub greatest_deeper : ℕ → ℕ → Prefix
greatest_deeper address bits = record { address = masked address bits + (size_of bits - 1); depth = 32 }

module _ (address bits : ℕ) (m : Members) (are : AreMembers m) (below : bits < 32) where
  -- a prefix between the two shares the first bits, and is deeper
  deeper_between : (p : Prefix) (hop : ℕ) → map.get m p ≡ Some hop → IsBetween (least_deeper address bits)
      (greatest_deeper address bits) p → HasDeeper bits m (first_bits address bits)
  deeper_between p hop e between =
      let member = are p hop e in
      let pos = size_pos bits in
      let low : masked address bits ≤ p.address = elim (from_le _ p between.0)
      [ inl less ↦ omega arith | inr same ↦ omega (arith, same.0) ] in
      let high : p.address < masked address bits + size_of bits = elim (from_le p _ between.1)
      [ inl less ↦ omega arith | inr same ↦ omega (arith, same.0) ] in
      let among : masked p.address bits ≡ masked address bits = masked_among p.address address bits low high in
      let deep : bits < p.depth = elim (cases_lt bits p.depth) [
        | inl yes_deep ↦ yes_deep
        | inr shallow ↦
            let base : first_bits p.address bits ≡ first_bits (masked address bits) bits =
            shared_from_masked p.address address bits among ∙ sym (first_bits-masked address bits) in
            let shared = ap (λ n. n * size_of p.depth)
            (shared_shallower p.address (masked address bits) bits p.depth base shallow (omega arith)) in
            let under = masked_le (masked address bits) p.depth in
            elim (from_le _ p between.0) [ inl less ↦ absurd (omega (arith, member.cleared)) | inr same ↦ absurd (omega (arith, same.1)) ]
      ] in
      record { prefix = p; hop = hop; member = e; deeper = deep; among = shared_from_masked p.address address bits among }

  between_deeper : (d : HasDeeper bits m (first_bits address bits)) → IsBetween (least_deeper address bits)
      (greatest_deeper address bits) d.prefix
  between_deeper d =
      let p : Prefix = d.prefix in
      let member = are p d.hop d.member in
      let pos = size_pos bits in
      let base : masked p.address bits ≡ masked address bits = ap (λ n. n * size_of bits) d.among in
      let low = masked_le p.address bits in
      let high = below_next p.address bits in (
        to_le (least_deeper address bits) p
            (elim (cases_lt (masked address bits) p.address)
            [ inl less ↦ inl less | inr same ↦ inr (omega arith, omega (arith, d.deeper)) ]),
        to_le p (greatest_deeper address bits)
            (elim (cases_lt p.address (masked address bits + (size_of bits - 1)))
            [ inl less ↦ inl less | inr same ↦ inr (omega arith, member.within.1) ]),
      )

  pub deeper_found : (b : Bool) → OnTrue b (SomeBetween m (least_deeper address bits) (greatest_deeper address bits))
      → OnFalse b (NoneBetween m (least_deeper address bits) (greatest_deeper address bits))
      → b ≡ has_deeper bits m (first_bits address bits)
  deeper_found true found missing = sym (deeper_has bits m _ (deeper_between found.0 found.1 found.3 found.2))
  deeper_found false found missing = both_ways _ _ (λ e. cc)
      (λ e. let d = has_deeper_is bits m _ e in let none = missing d.prefix (between_deeper d) in let some = d.member in cc)

  pub ordered : IsLeBy prefix_cmp (least_deeper address bits) (greatest_deeper address bits)
  ordered =
      to_le (least_deeper address bits) (greatest_deeper address bits)
      (elim (cases_lt (masked address bits) (masked address bits + (size_of bits - 1)))
      [ inl less ↦ inl less | inr same ↦ inr (omega (arith, size_pos bits), omega arith) ])
