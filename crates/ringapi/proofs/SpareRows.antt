-- Worked cases of hands for threads that come later
use Rattle.std.proofs.Common.{◌≡◌, ℕ, List, [], ◌∷◌, ap, inl, inr, refl}
use Rattle.fabric_laws.specs.declared.view.View.{View}
use Rattle.fabric_laws.specs.Changes.{newborn}
use Rattle.ringapi.specs.Spares.{IsSameBut, IsUnused}

-- a hand on no rings and three buffers, with six parts, which owns these buffers
abbrev owner : List ℕ → View ℕ
owner given = newborn [] 3 6 given

-- it has done nothing and owns none
pub fresh_is_unused : IsUnused (owner [])
fresh_is_unused = refl

-- it owns a buffer
pub owner_is_used : IsUnused (owner (1 ∷ [])) → ⊥
owner_is_used is = absurd (let z : (1 ∷ []) ≡ [] = ap (λ (v : View ℕ). v.party.given) is in cc)

-- it made a step
pub stepped_is_used : IsUnused (record (owner []) { steps = 1 }) → ⊥
stepped_is_used is = absurd (let z : 1 ≡ 0 = ap (λ (v : View ℕ). v.steps) is in cc)

-- a hand that a split was for has all of its parts, or half of them
pub all_parts_left : IsSameBut (owner (1 ∷ [])) (owner (1 ∷ []))
all_parts_left = inl refl

pub half_left : IsSameBut (owner (1 ∷ [])) (newborn [] 3 3 (1 ∷ []))
half_left = inr refl

-- it doesn't lose a buffer, and doesn't keep another number of parts
pub buffer_lost : IsSameBut (owner (1 ∷ [])) (owner []) → ⊥
buffer_lost (inl is) = absurd (let z : [] ≡ 1 ∷ [] = ap (λ (v : View ℕ). v.party.given) is in cc)
buffer_lost (inr is) = absurd (let z : [] ≡ 1 ∷ [] = ap (λ (v : View ℕ). v.party.given) is in cc)

pub third_left : IsSameBut (owner []) (newborn [] 3 2 []) → ⊥
third_left (inl is) = absurd (let z : 2 ≡ 6 = ap (λ (v : View ℕ). v.parts) is in cc)
third_left (inr is) = absurd (let z : 2 ≡ 3 = ap (λ (v : View ℕ). v.parts) is in cc)
