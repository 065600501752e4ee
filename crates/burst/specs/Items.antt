-- The items among optional ones.
use Rattle.std.specs.Prelude.{List, [], ◌∷◌, Option, None, Some}

module _ {T : Type 0} where
  -- the items that are there, in order
  abbrev pub somes : List (Option T) → List T
  somes [] = []
  somes (None ∷ cells) = somes cells
  somes (Some x ∷ cells) = x ∷ somes cells
