-- One element of a list is changed.
use Rattle.std.proofs.Common.{◌≡◌, ◌≢◌, ℕ, zero, suc, ◌⊎◌, inl, inr, List, [], ◌∷◌, ◌++◌, Some, slice_get, slice_set, refl, sym, ap, ◌∙◌, subst, arith}
use Rattle.std.proofs.Common.{append_assoc, map, length}
use Rattle.std.specs.Prelude.{reverse}
use Rattle.std.proofs.lemmas.List.{reverse-append, map-append}

module _ {T : Type 0} where
  -- what holds for each element of two lists holds for each element of their concatenation
  pub each_append : (P : T → Type 0) (xs ys : List T) → ((q : ℕ) (w : T) → slice_get xs q ≡ Some w → P w)
      → ((q : ℕ) (w : T) → slice_get ys q ≡ Some w → P w) → (q : ℕ) (w : T) → slice_get (xs ++ ys) q ≡ Some w → P w
  each_append P [] ys one two q w got = two q w got
  each_append P (x ∷ xs) ys one two zero w got = one zero w got
  each_append P (x ∷ xs) ys one two (suc q) w got = each_append P xs ys (λ n v is. one (suc n) v is) two q w got

  pub each_alone : (P : T → Type 0) (x : T) → P x → (q : ℕ) (w : T) → slice_get (x ∷ []) q ≡ Some w → P w
  each_alone P x here zero w got = let e : x ≡ w = cc got in subst P e here
  each_alone P x here (suc q) w got = absurd (cc got)

  pub each_reverse : (P : T → Type 0) (xs : List T) → ((q : ℕ) (w : T) → slice_get xs q ≡ Some w → P w)
      → (q : ℕ) (w : T) → slice_get (reverse xs) q ≡ Some w → P w
  each_reverse P [] each q w got = each q w got
  each_reverse P (x ∷ xs) each q w got =
      each_append P (reverse xs) (x ∷ []) (each_reverse P xs (λ n v is. each (suc n) v is)) (each_alone P x (each zero x refl)) q w
      (ap (λ l. slice_get l q) (sym (reverse-append (x ∷ []) xs)) ∙ got)

  -- what is at index q of a list with y at index p
  pub at_set : (xs : List T) (p q : ℕ) (was y w : T) → slice_get xs p ≡ Some was → slice_get (slice_set xs p y) q ≡ Some w
      → ((q ≡ p) × (w ≡ y)) ⊎ ((q ≢ p) × (slice_get xs q ≡ Some w))
  at_set [] p q was y w at got = absurd (cc at)
  at_set (x ∷ xs) zero zero was y w at got = inl (refl, cc got)
  at_set (x ∷ xs) zero (suc q) was y w at got = inr (λ e. absurd (cc e), got)
  at_set (x ∷ xs) (suc p) zero was y w at got = inr (λ e. absurd (cc e), got)
  at_set (x ∷ xs) (suc p) (suc q) was y w at got = elim (at_set xs p q was y w at got) [
    | inl e ↦ inl (ap (λ n. suc n) e.0, e.1)
    | inr e ↦ inr (λ f. e.0 (omega (arith, f)), e.1)
  ]

  -- a relation of each element to what it was: for the one that changed, and for the others
  pub changed : (R : ℕ → T → T → Type 0) (xs : List T) (p : ℕ) (was y : T) → slice_get xs p ≡ Some was → R p was y
      → ((q : ℕ) (w : T) → q ≢ p → R q w w)
      → (q : ℕ) (w : T) → slice_get (slice_set xs p y) q ≡ Some w → (old : T) × (slice_get xs q ≡ Some old) × R q old w
  changed R xs p was y at here others q w got = elim (at_set xs p q was y w at got) [
    | inl e ↦ (was, ap (λ n. slice_get xs n) e.0 ∙ at, subst (λ n. R n was w) (sym e.0) (subst (R p was) (sym e.1) here))
    | inr e ↦ (w, e.1, others q w e.0)
  ]

pub map_reverse : {A B : Type 0} (f : A → B) (xs : List A) → reverse (map f xs) ≡ map f (reverse xs)
map_reverse f [] = refl
map_reverse f (x ∷ xs) =
    reverse-append (f x ∷ []) (map f xs) ∙ (ap (λ l. l ++ f x ∷ []) (map_reverse f xs)
    ∙ (sym (map-append f (reverse xs) (x ∷ [])) ∙ ap (map f) (sym (reverse-append (x ∷ []) xs))))

-- the last element of one list goes to the end of another, which is read backwards
pub handed_on : {A B : Type 0} (f : B → A) (before xs all : List A) (x : A) (ys : List B) (y : B)
    → before ++ reverse (map f ys) ≡ all → before ≡ xs ++ x ∷ [] → f y ≡ x → xs ++ reverse (map f (ys ++ y ∷ [])) ≡ all
handed_on f before xs all x ys y whole e same =
    ap (λ l. xs ++ reverse l) (map-append f ys (y ∷ []))
    ∙ (ap (λ l. xs ++ l) (reverse-append (map f ys) (f y ∷ []))
    ∙ (ap (λ z. xs ++ (z ∷ reverse (map f ys))) same
    ∙ (sym (append_assoc xs (x ∷ []) (reverse (map f ys))) ∙ (ap (λ l. l ++ reverse (map f ys)) (sym e) ∙ whole))))

pub nothing : {A : Type 0} (xs : List A) → length xs ≡ 0 → xs ≡ []
nothing [] e = refl
nothing (x ∷ xs) e = absurd (omega (arith, e))
