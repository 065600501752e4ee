-- Lists of buffer numbers.
use Rattle.std.specs.Prelude.{ℕ, ◌≤◌, ◌==◌, List, [], ◌∷◌, Option, None, Some}
use Rattle.std.specs.List.{count_by}

-- how often a buffer occurs in a list of numbers
abbrev pub times : ℕ → List ℕ → ℕ
times b numbers = count_by (λ n. n == b) numbers

-- no number occurs in the list twice
abbrev pub AreDistinct : List ℕ → Type 0
AreDistinct numbers = (b : ℕ) → times b numbers ≤ 1

-- the number of a list that has exactly one
abbrev pub only : List ℕ → Option ℕ
only [] = None
only (b ∷ []) = Some b
only (b ∷ c ∷ more) = None
