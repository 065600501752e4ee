-- How the longest match at an address changes with the members.
use Rattle.std.proofs.Common.{◌≡◌, ◌≢◌, ℕ, zero, suc, ◌-◌, ◌*◌, ◌^◌, ◌≤◌, ◌<◌, Bool, true, false, cond, Option, Some, None, refl, sym, ap, ◌∙◌, subst, arith}
use Rattle.std.specs.Ordering.{eq_by_cmp, is_eq}
use Rattle.std.specs.Cmp.{tied_itself, Equal-is}
use Rattle.std.specs.FinMap as map
use Rattle.lpm.specs.declared.prefix.Prefix.{Prefix}
use Rattle.lpm.specs.TableEntry.{TableEntry, entry_of, overwritten}
use Rattle.lpm.specs.Prefixes.{Members, prefix_cmp, prefix_of, masked, first_bits}
use Rattle.lpm.specs.Match.{longest, entry_or}
use Rattle.lpm.proofs.Keys.{prefix_total, prefix_antisymmetric}
use Rattle.lpm.proofs.Masks.{shared_shallower}
use Rattle.lpm.proofs.Overwritten.{overwritten-deeper, overwritten-covered}
use Rattle.std.proofs.lemmas.Bool.{cases_lt}
use Rattle.std.proofs.Common.{inl, inr}

entry_or-depth : (w : Option ℕ) (d n : ℕ) (c : TableEntry) → d ≤ n → c.depth ≤ n → (entry_or w d c).depth ≤ n
entry_or-depth None d n c h k = k
entry_or-depth (Some x) d n c h k = h

pub longest-depth : (m : Members) (a n : ℕ) → (longest m a n).depth ≤ n
unfolding longest
longest-depth m a zero = omega arith
longest-depth m a (suc n) = entry_or-depth (map.get m (prefix_of a (suc n))) (suc n) (suc n) (longest m a n) (omega arith)
    (omega (arith, longest-depth m a n))

pub longest-zero : (m : Members) (a : ℕ) → longest m a 0 ≡ entry_of 0 0
unfolding longest
longest-zero m a = refl

-- if a member of this depth covers the address, it is the longest of at most this depth
pub longest-here : (m : Members) (a d h : ℕ) → 0 < d → map.get m (prefix_of a d) ≡ Some h → longest m a d ≡ entry_of d h
unfolding longest
longest-here m a zero h pos e = absurd (omega arith)
longest-here m a (suc d) h pos e = ap (λ w. entry_or w (suc d) (longest m a d)) e

-- and if none does, the longest is shorter
pub longest-shorter : (m : Members) (a d : ℕ) → 0 < d → map.get m (prefix_of a d) ≡ None → longest m a d ≡ longest m a (d - 1)
unfolding longest
longest-shorter m a zero pos e = absurd (omega arith)
longest-shorter m a (suc d) pos e =
    let same : d ≡ suc d - 1 = omega arith in
    ap (λ w. entry_or w (suc d) (longest m a d)) e ∙ ap (longest m a) same

-- addresses that share their first n bits have the same longest match of at most n bits
pub longest-shared : (m : Members) (a b n : ℕ) → first_bits a n ≡ first_bits b n → n ≤ 32 → longest m a n ≡ longest m b n
unfolding longest
longest-shared m a b zero e h = refl
longest-shared m a b (suc n) e h =
    let below : longest m a n ≡ longest m b n = longest-shared m a b n (shared_shallower a b (suc n) n e (omega arith) h) (omega arith) in
    λ i. entry_or (map.get m (record { address = e i * 2 ^ (32 - suc n); depth = suc n })) (suc n) (below i)

-- the members m with w, a hop or none, at the one prefix k
abbrev pub ChangesAt : Members → Members → Prefix → Option ℕ → Type 0
ChangesAt m m' k w = (q : Prefix) → map.get m' q ≡ cond (eq_by_cmp prefix_cmp q k) w (map.get m q)

-- a test that can't pass
pub tests_apart : (b : Bool) (P : Type 0) → (b ≡ true → P) → ¬ P → b ≡ false
tests_apart true P f n = absurd (n (f refl))
tests_apart false P f n = refl

pub changed_apart : (m m' : Members) (k : Prefix) (w : Option ℕ) → ChangesAt m m' k w → (q : Prefix) → q ≢ k → map.get m' q ≡ map.get m q
changed_apart m m' k w change q apart =
    change q ∙ ap (λ b. cond b w (map.get m q))
    (tests_apart _ (q ≡ k) (λ e. prefix_antisymmetric q k ((Equal-is (prefix_cmp q k)).0 e)) apart)

pub changed_here : (m m' : Members) (k : Prefix) (w : Option ℕ) → ChangesAt m m' k w → map.get m' k ≡ w
changed_here m m' k w change = change k ∙ ap (λ b. cond b w (map.get m k)) (ap is_eq (tied_itself prefix_total k))

entry_or-overwritten : (g : Option ℕ) (n d : ℕ) (new c c' : TableEntry) → d < n → c' ≡ overwritten d new c
    → entry_or g n c' ≡ overwritten d new (entry_or g n c)
entry_or-overwritten None n d new c c' h e = e
entry_or-overwritten (Some hop) n d new c c' h e = sym (overwritten-deeper d new (entry_of n hop) h)

module _ (m m' : Members) (x d : ℕ) (w : Option ℕ) (change : ChangesAt m m' (prefix_of x d) w) where
  -- a member deeper than n has no part in a match of at most n bits
  pub longest-deeper : (a n : ℕ) → n < d → longest m' a n ≡ longest m a n
  unfolding longest
  longest-deeper a zero h = refl
  longest-deeper a (suc n) h =
      let apart : prefix_of a (suc n) ≢ prefix_of x d = λ e. omega (arith, ap (λ (p : Prefix). p.depth) e) in
      λ i. entry_or (changed_apart m m' _ w change (prefix_of a (suc n)) apart i) (suc n) (longest-deeper a n (omega arith) i)

  -- nor has it at an address that it doesn't cover
  pub longest-outside : (a n : ℕ) → masked a d ≢ masked x d → longest m' a n ≡ longest m a n
  unfolding longest
  longest-outside a zero h = refl
  longest-outside a (suc n) h =
      let apart : prefix_of a (suc n) ≢ prefix_of x d =
      λ e. h (subst (λ k. masked a k ≡ masked x d) (ap (λ (p : Prefix). p.depth) e) (ap (λ (p : Prefix). p.address) e)) in
      λ i. entry_or (changed_apart m m' _ w change (prefix_of a (suc n)) apart i) (suc n) (longest-outside a n h i)

  at_depth : (a n : ℕ) → masked a d ≡ masked x d → d ≡ suc n → longest m' a (suc n) ≡ entry_or w d (longest m a (d - 1))
  unfolding longest
  at_depth a n e is =
      let same : prefix_of a (suc n) ≡ prefix_of x d =
      λ i. record { address = (ap (masked a) (sym is) ∙ e) i; depth = sym is i } in
      let found : map.get m' (prefix_of a (suc n)) ≡ w = ap (map.get m') same ∙ changed_here m m' _ w change in
      let shorter : n ≡ d - 1 = omega arith in
      let below : longest m' a n ≡ longest m a (d - 1) = longest-deeper a n (omega arith) ∙ ap (longest m a) shorter in
      λ i. entry_or (found i) (sym is i) (below i)

  deeper_step : (a n : ℕ) (new : TableEntry) → d < suc n → longest m' a n ≡ overwritten d new (longest m a n)
      → longest m' a (suc n) ≡ overwritten d new (longest m a (suc n))
  unfolding longest
  deeper_step a n new h before =
      let apart : prefix_of a (suc n) ≢ prefix_of x d = λ e. omega (arith, ap (λ (p : Prefix). p.depth) e) in
      ap (λ g. entry_or g (suc n) (longest m' a n)) (changed_apart m m' _ w change (prefix_of a (suc n)) apart)
      ∙ entry_or-overwritten (map.get m (prefix_of a (suc n))) (suc n) d new _ _ h before

  -- at an address that it covers, what was no deeper is replaced by it, or by the next shorter member
  pub longest-covered : (a n : ℕ) → masked a d ≡ masked x d → 0 < d → d ≤ n
      → longest m' a n ≡ overwritten d (entry_or w d (longest m a (d - 1))) (longest m a n)
  longest-covered a zero e pos h = absurd (omega arith)
  longest-covered a (suc n) e pos h =
      elim (cases_lt n d) [
        | inl below ↦
            at_depth a n e (omega arith) ∙ sym (overwritten-covered d _ (longest m a (suc n)) (omega (arith, longest-depth m a (suc n))))
        | inr above ↦ deeper_step a n _ (omega arith) (longest-covered a n e pos above)
      ]
