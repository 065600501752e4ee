-- Words that leave a window one after the other: one more leaves
use Rattle.std.proofs.Common.{◌≡◌, ℕ, List, [], ◌∷◌, ◌++◌, Some, refl, subst}
use Rattle.std.specs.FinMap as map
use Rattle.reorder.specs.Waiting.{Waiting, after_next}
use Rattle.capi.specs.Windows.{Leave}

pub leave_more : (xs : List ℕ) (y : ℕ) (w u : Waiting ℕ) → Leave xs w u → map.get u.held u.next ≡ Some y
    → Leave (xs ++ y ∷ []) w (after_next u)
leave_more [] y w u same found = subst (λ (v : Waiting ℕ). (map.get v.held v.next ≡ Some y) × (after_next u ≡ after_next v)) same (found, refl)
leave_more (x ∷ xs) y w u left found = (left.0, leave_more xs y (after_next w) u left.1 found)
