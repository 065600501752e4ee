-- Elements of lists, and numbers that are 1 or not
use Rattle.std.proofs.Common.{ℕ, zero, suc, ◌<◌, ◌≡◌, ◌≢◌, ◌⊎◌, List, [], ◌∷◌, length, refl, arith}
use Rattle.std.specs.Prelude.{slice_get, Some}

pub same_or_not : (a b : ℕ) → (a ≡ b) ⊎ (a ≢ b)
same_or_not a b = grind arith

-- an element of a list
pub element : {X : Type 0} (xs : List X) (r : ℕ) → r < length xs → (x : X) × (slice_get xs r ≡ Some x)
element [] r lt = absurd (omega arith)
element (x ∷ xs) zero lt = (x, refl)
element (x ∷ xs) (suc r) lt = element xs r (omega arith)
