-- How the first bits that need a group change with one member.
use Rattle.std.proofs.Common.{◌≡◌, ◌≢◌, ℕ, ◌≤◌, ◌<◌, true, false, not, ◌&&◌, ◌||◌, Option, sym, ap, ◌∙◌, subst, inl, inr, arith}
use Rattle.std.proofs.lemmas.Bool.{cases_eq}
use Rattle.std.specs.Ordering.{nat_cmp, eq_by_cmp, is_eq}
use Rattle.std.specs.Cmp.{nat_cmp_total, both_ways, Equal-is, tied_itself}
use Rattle.std.specs.FinSet as fin_set
use Rattle.std.specs.FinSet.{nat_cmp-IsAntisymmetric}
use Rattle.lpm.specs.declared.prefix.Prefix.{Prefix}
use Rattle.lpm.specs.Prefixes.{Members, first_bits}
use Rattle.lpm.specs.Groups.{deeper_firsts, has_deeper, HasDeeper}
use Rattle.lpm.proofs.Longest.{ChangesAt, changed_apart, tests_apart}
use Rattle.lpm.proofs.Firsts.{deeper_has, has_deeper_is}

-- two tests of first bits agree if each member that one finds is found by the other
same_firsts : (bits : ℕ) (m m' : Members) → ((f : ℕ) → HasDeeper bits m' f → has_deeper bits m f ≡ true)
    → ((f : ℕ) → HasDeeper bits m f → has_deeper bits m' f ≡ true)
    → deeper_firsts bits m' ≡ deeper_firsts bits m
same_firsts bits m m' to from = fin_set.same_set nat_cmp_total nat_cmp-IsAntisymmetric _ _ (λ f.
    both_ways _ _ (λ e. to f (has_deeper_is bits m' f e)) (λ e. from f (has_deeper_is bits m f e)))

tied : (f : ℕ) → eq_by_cmp nat_cmp f f ≡ true
tied f = ap is_eq (tied_itself nat_cmp_total f)

untied : (f g : ℕ) → f ≢ g → eq_by_cmp nat_cmp f g ≡ false
untied f g other = tests_apart _ (f ≡ g) (λ e. nat_cmp-IsAntisymmetric f g ((Equal-is (nat_cmp f g)).0 e)) other

module _ (bits : ℕ) (m m' : Members) (k : Prefix) (w : Option ℕ) (change : ChangesAt m m' k w) where
  -- another prefix's part in m is its part in m'
  stays : (f : ℕ) (d : HasDeeper bits m f) → d.prefix ≢ k → has_deeper bits m' f ≡ true
  stays f d apart = deeper_has bits m' f (record {
    prefix = d.prefix;
    hop = d.hop;
    member = changed_apart m m' k w change d.prefix apart
        ∙ d.member;
    deeper = d.deeper;
    among = d.among;
  })

  comes : (f : ℕ) (d : HasDeeper bits m' f) → d.prefix ≢ k → has_deeper bits m f ≡ true
  comes f d apart = deeper_has bits m f (record {
    prefix = d.prefix;
    hop = d.hop;
    member = sym (changed_apart m m' k w change d.prefix apart)
        ∙ d.member;
    deeper = d.deeper;
    among = d.among;
  })

  apart_by_depth : (p : Prefix) → k.depth ≤ bits → bits < p.depth → p ≢ k
  apart_by_depth p shallow deep e = omega (arith, ap (λ (q : Prefix). q.depth) e)

  apart_by_first : (p : Prefix) (f : ℕ) → first_bits p.address bits ≡ f → f ≢ first_bits k.address bits → p ≢ k
  apart_by_first p f among other e = other (sym among ∙ ap (λ (q : Prefix). first_bits q.address bits) e)

  -- a member no deeper than the first level needs no group
  pub firsts_of_shallow : k.depth ≤ bits → deeper_firsts bits m' ≡ deeper_firsts bits m
  firsts_of_shallow shallow = same_firsts bits m m'
      (λ f d. comes f d (apart_by_depth d.prefix shallow d.deeper)) (λ f d. stays f d (apart_by_depth d.prefix shallow d.deeper))

  -- other first bits are unchanged
  pub has_deeper_other : (f : ℕ) → f ≢ first_bits k.address bits → has_deeper bits m' f ≡ has_deeper bits m f
  has_deeper_other f other = both_ways _ _
      (λ e. let d = has_deeper_is bits m' f e in comes f d (apart_by_first d.prefix f d.among other))
      (λ e. let d = has_deeper_is bits m f e in stays f d (apart_by_first d.prefix f d.among other))

  same_except : (s : fin_set.FinSet nat_cmp) → ((f : ℕ) → f ≢ first_bits k.address bits → fin_set.contains s f ≡ has_deeper bits m f)
      → fin_set.contains s (first_bits k.address bits) ≡ has_deeper bits m' (first_bits k.address bits)
      → deeper_firsts bits m' ≡ s
  same_except s others here = fin_set.same_set nat_cmp_total nat_cmp-IsAntisymmetric _ _ (λ f.
      elim (cases_eq f (first_bits k.address bits)) [
        | inl is ↦ subst (λ g. has_deeper bits m' g ≡ fin_set.contains s g) (sym is) (sym here)
        | inr other ↦ has_deeper_other f other ∙ sym (others f other)
      ])

  -- if they need a group afterwards, they are among those that do
  pub firsts_with : has_deeper bits m' (first_bits k.address bits) ≡ true
      → deeper_firsts bits m' ≡ fin_set.insert (deeper_firsts bits m) (first_bits k.address bits)
  firsts_with here = same_except (fin_set.insert (deeper_firsts bits m) (first_bits k.address bits))
      (λ f other. fin_set.contains-insert nat_cmp_total _ _ f ∙ ap (λ b. b || has_deeper bits m f) (untied f _ other))
      (fin_set.contains-insert nat_cmp_total _ _ _ ∙ ap (λ b. b || has_deeper bits m (first_bits k.address bits))
      (tied (first_bits k.address bits)) ∙ sym here)

  -- and if they need none, they are not
  pub firsts_without : has_deeper bits m' (first_bits k.address bits) ≡ false
      → deeper_firsts bits m' ≡ fin_set.remove (deeper_firsts bits m) (first_bits k.address bits)
  firsts_without here = same_except (fin_set.remove (deeper_firsts bits m) (first_bits k.address bits))
      (λ f other. fin_set.contains-remove nat_cmp_total _ _ f ∙ ap (λ b. not b && has_deeper bits m f) (untied f _ other))
      (fin_set.contains-remove nat_cmp_total _ _ _ ∙ ap (λ b. not b && has_deeper bits m (first_bits k.address bits))
      (tied (first_bits k.address bits)) ∙ sym here)
