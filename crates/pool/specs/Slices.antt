-- What became of a list in a call
use Rattle.std.specs.Prelude.{◌≡◌, ℕ, List, [], Result, Ok, Err}
use Rattle.ringapi.specs.declared.answers.Moved.{Moved}

module _ {T : Type 0} where
  -- what a get into a slice returned: all that the slice has afterwards, or nothing; and what a put left over: nothing,
  -- or all of the list
  abbrev pub filled : {X E : Type 0} → Result X E → List T → List T
  filled (Ok x) items = items
  filled (Err e) items = []

  abbrev pub undone : {X E : Type 0} → Result X E → List T → List T
  undone (Ok x) items = []
  undone (Err e) items = items

  -- what is in a list after a put of its items, by what is left of it once they were moved: words are copied
  abbrev pub put_from : {X E : Type 0} → (List T → ℕ → List T) → Result X E → List T → List T
  put_from left (Ok x) items = left items 0
  put_from left (Err e) items = items

  -- the same after a put of some of them
  abbrev pub left_by : {E : Type 0} → (List T → ℕ → List T) → Result Moved E → List T → List T
  left_by after (Ok moved) items = after items moved.count
  left_by after (Err e) items = items

-- what stays as it is of a list that items are taken into: the places that got none, or all of it
abbrev pub KeepsRoom : {I X E : Type 0} → (I → I → Type 0) → I → Result X E → I → Type 0
KeepsRoom beside before (Ok x) later = beside before later
KeepsRoom beside before (Err e) later = later ≡ before
