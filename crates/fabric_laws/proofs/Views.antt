-- The hands as parties, when one hand's view changes
use Rattle.std.proofs.Common.{◌≡◌, ℕ, zero, suc, ◌+◌, ◌<◌, ◌≤◌, List, [], ◌∷◌, ◌++◌, length, set, sym, refl, ap, ◌∙◌, arith}
use Rattle.std.specs.Prelude.{slice_index_or}
use mathlib.Core.Option.{some, some-injective, some-ne-none}
use lib.ListN.{get_elem?}
use Rattle.std.specs.List.{sum_by}
use Rattle.std.proofs.lemmas.List.Sums.{sum_by-cons}
use Rattle.ringcore_laws.specs.declared.party.Party.{Party}
use Rattle.fabric_laws.specs.declared.view.View.{View}
use Rattle.fabric_laws.specs.Rule.{parties_of_views}

module _ {T : Type 0} where
  pub parties_length : (views : List (View T)) → length (parties_of_views views) ≡ length views
  parties_length [] = refl
  parties_length (x ∷ xs) = ap suc (parties_length xs)

  pub party_within : (views : List (View T)) (id : ℕ) (v : View T) → get_elem? views id ≡ some v → id < length (parties_of_views views)
  party_within [] id v e = absurd (some-ne-none v (sym e))
  party_within (x ∷ xs) zero v e = omega arith
  party_within (x ∷ xs) (suc id) v e = let k = party_within xs id v e in omega arith

  pub party_here : (views : List (View T)) (id : ℕ) (v : View T) (d : Party T) → get_elem? views id ≡ some v
      → slice_index_or (parties_of_views views) id d ≡ v.party
  party_here [] id v d e = absurd (some-ne-none v (sym e))
  party_here (x ∷ xs) zero v d e = ap (λ (u : View T). u.party) (some-injective x v e)
  party_here (x ∷ xs) (suc id) v d e = party_here xs id v d e

  pub parties_set : (views : List (View T)) (id : ℕ) (w : View T) → parties_of_views (set views id w) ≡ set (parties_of_views views) id w.party
  parties_set [] id w = refl
  parties_set (x ∷ xs) zero w = refl
  parties_set (x ∷ xs) (suc id) w = ap (λ l. x.party ∷ l) (parties_set xs id w)

  pub parties_same : (views : List (View T)) (id : ℕ) (v w : View T) → get_elem? views id ≡ some v → w.party ≡ v.party
      → parties_of_views (set views id w) ≡ parties_of_views views
  parties_same [] id v w e same = refl
  parties_same (x ∷ xs) zero v w e same = ap (λ p. p ∷ parties_of_views xs) (same ∙ sym (ap (λ (u : View T). u.party) (some-injective x v e)))
  parties_same (x ∷ xs) (suc id) v w e same = ap (λ l. x.party ∷ l) (parties_same xs id v w e same)

  pub parties_push : (views : List (View T)) (w : View T) → parties_of_views (views ++ w ∷ []) ≡ parties_of_views views ++ w.party ∷ []
  parties_push [] w = refl
  parties_push (x ∷ xs) w = ap (λ l. x.party ∷ l) (parties_push xs w)

pub sum_by_at : {X : Type 0} (f : X → ℕ) (xs : List X) (i : ℕ) (v w : X) → get_elem? xs i ≡ some v → sum_by f (set xs i w) + f v ≡ sum_by f xs + f w
sum_by_at f [] i v w e = absurd (some-ne-none v (sym e))
sum_by_at f (x ∷ xs) zero v w e = omega (arith, sum_by-cons f x xs, sum_by-cons f w xs, ap f (some-injective x v e))
sum_by_at f (x ∷ xs) (suc i) v w e = omega (arith, sum_by-cons f x xs, sum_by-cons f x (set xs i w), sum_by_at f xs i v w e)

pub parts_within : {T : Type 0} (views : List (View T)) (id : ℕ) (v : View T) → get_elem? views id ≡ some v → v.parts ≤ sum_by (λ (u : View T). u.parts) views
parts_within {T} [] id v e = absurd (some-ne-none v (sym e))
parts_within {T} (x ∷ xs) zero v e = omega (arith, sum_by-cons (λ (u : View T). u.parts) x xs, ap (λ (u : View T). u.parts) (some-injective x v e))
parts_within {T} (x ∷ xs) (suc id) v e = omega (arith, sum_by-cons (λ (u : View T). u.parts) x xs, parts_within xs id v e)
