-- What a contract sees of a stack of words in an array
use Rattle.std.specs.Prelude.{ℕ, List, length, take, drop}
use Rattle.pool.specs.declared.stack.Stack.{Stack}

module _ {T : Type 0} where
  -- its words, the oldest first
  abbrev pub stacked : Stack T → List T
  stacked s = take s.count s.places.items

  -- how many places it has
  abbrev pub room_of : Stack T → ℕ
  room_of s = length s.places.items

  -- what comes after these items in a list that begins with them
  abbrev pub added : List T → List T → List T
  added before after = drop (length before) after
