-- What an insert and a pop keep of the items of a window, and one more element of a list.
use Rattle.std.proofs.Common.{◌≡◌, ◌≢◌, ℕ, zero, suc, ◌+◌, true, false, cond, List, [], ◌∷◌, ◌++◌, take, slice_get, Some, None, Result, Ok, Err, sym, ap, ◌∙◌}
use Rattle.std.proofs.Common.{subst, arith, inl, inr, eq-eqb, ne_eqb}
use Rattle.std.specs.Ordering.{nat_cmp, eq_by_cmp}
use Rattle.std.specs.Cmp.{nat_cmp_total, unsigned_tied}
use Rattle.std.specs.Result.{OnOk, OnErr}
use Rattle.std.specs.FinMap as map
use Rattle.std.specs.FinMap.{get-insert, get-remove, get-empty}
use Rattle.std.proofs.lemmas.Bool.{cases_eq}
use Rattle.reorder.specs.Waiting.{Waiting, empty_window, with_number, after_next}

pub tied : (q n : ℕ) → q ≡ n → eq_by_cmp nat_cmp q n ≡ true
tied q n same = unsigned_tied q n ∙ eq-eqb q n same

pub untied : (q n : ℕ) → q ≢ n → eq_by_cmp nat_cmp q n ≡ false
untied q n other = unsigned_tied q n ∙ ne_eqb q n other

module _ {T : Type 0} where
  pub all_empty : (P : ℕ → T → Type 0) (size : ℕ) (n : ℕ) (x : T) → map.get (empty_window {T = T} size).held n ≡ Some x → P n x
  all_empty P size n x got = absurd (cc (sym (get-empty nat_cmp n) ∙ got))

  pub all_insert : (P : ℕ → T → Type 0) (w : Waiting T) (k : ℕ) (y : T)
      → ((n : ℕ) (x : T) → map.get w.held n ≡ Some x → P n x) → P k y
      → (n : ℕ) (x : T) → map.get (with_number w k y).held n ≡ Some x → P n x
  all_insert P w k y all here n x got =
      let is = sym (get-insert nat_cmp_total w.held k y n) ∙ got in
      elim (cases_eq n k) [
        | inl same ↦
            let e : Some y ≡ Some x = sym (ap (λ b. cond b (Some y) (map.get w.held n)) (tied n k same)) ∙ is in
            let f : y ≡ x = cc e in subst (λ q. P q x) (sym same) (subst (P k) f here)
        | inr other ↦ all n x (sym (ap (λ b. cond b (Some y) (map.get w.held n)) (untied n k other)) ∙ is)
      ]

  pub all_next : (P : ℕ → T → Type 0) (w : Waiting T) → ((n : ℕ) (x : T) → map.get w.held n ≡ Some x → P n x)
      → (n : ℕ) (x : T) → map.get (after_next w).held n ≡ Some x → P n x
  all_next P w all n x got =
      let is = sym (get-remove nat_cmp_total w.held w.next n) ∙ got in
      elim (cases_eq n w.next) [
        | inl same ↦ absurd (cc (sym (ap (λ b. cond b None (map.get w.held n)) (tied n w.next same)) ∙ is))
        | inr other ↦ all n x (sym (ap (λ b. cond b None (map.get w.held n)) (untied n w.next other)) ∙ is)
      ]

  -- one more element
  pub take_one_more : (xs : List T) (n : ℕ) (x : T) → slice_get xs n ≡ Some x → take n xs ++ x ∷ [] ≡ take (n + 1) xs
  take_one_more [] n x got = absurd (cc got)
  take_one_more (y ∷ xs) zero x got = let e : y ≡ x = cc got in cc e
  take_one_more (y ∷ xs) (suc n) x got =
      let e : suc n + 1 ≡ suc (n + 1) = omega arith in rw e (ap (λ zs. y ∷ zs) (take_one_more xs n x got))

  -- what an insert leaves, by its result
  pub all_inserted : (P : ℕ → T → Type 0) {E : Type 0} (w u : Waiting T) (k : ℕ) (y : T) (r : Result (Unit {0}) E)
      → OnOk r (u ≡ with_number w k y) → OnErr r (u ≡ w) → P k y
      → ((n : ℕ) (x : T) → map.get w.held n ≡ Some x → P n x)
      → ((n : ℕ) (x : T) → map.get u.held n ≡ Some x → P n x) × (u.next ≡ w.next)
  all_inserted P w u k y (Ok _) ok err here all =
      (λ n x is. all_insert P w k y all here n x (subst (λ v. map.get v.held n ≡ Some x) ok is), ap (λ v. v.next) ok)
  all_inserted P w u k y (Err _) ok err here all =
      (λ n x is. all n x (subst (λ v. map.get v.held n ≡ Some x) err is), ap (λ v. v.next) err)
