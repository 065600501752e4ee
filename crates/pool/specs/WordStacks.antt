-- What a contract sees of a stack of words that has their places
use Rattle.std.specs.Prelude.{ℕ, List, length}
use Rattle.burst.specs.declared.tagged.Tagged.{Ghosts}
use Rattle.pool.specs.Stacks.{room_of, stacked}
use Rattle.pool.specs.declared.word_stack.WordStack.{WordStack}

module _ {T : Type 0} {G : Ghosts T} where
  -- its words, the oldest first
  abbrev pub words_in : WordStack T G → List T
  words_in s = stacked s.stack

  -- how many words it has room for
  abbrev pub room_in : WordStack T G → ℕ
  room_in s = room_of s.stack

  -- for how many buffers it has a place
  abbrev pub buffers_in : WordStack T G → ℕ
  buffers_in s = length s.at.items
