-- Cells of which some are in use
use Rattle.std.specs.Prelude.{◌≡◌, ◌≤◌, ◌-◌, ℕ, List, ◌++◌, Option, None, take, length, replicate}

-- of N cells the first n are in use, and the others hold nothing
abbrev pub IsInFront : {T : Type 0} → ℕ → ℕ → List (Option T) → Type 0
IsInFront N n xs = (xs ≡ take n xs ++ replicate (N - n) None) × (length (take n xs) ≡ n) × (n ≤ N)
