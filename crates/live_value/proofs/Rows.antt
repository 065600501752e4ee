-- Worked cases, which the checker computes: what was published, and what a step on a lane tells.
use Rattle.std.proofs.Common.{◌≡◌, ℕ, ◌+◌, ◌%◌, ◌^◌, [], ◌∷◌, Some, None, refl, lit<}
use mathlib.Core.Option.{none, some}
use Rattle.live_value.specs.declared.past.Past.{Past}
use Rattle.live_value.specs.declared.lane.Role.TheVariants.{Writes, Awaits, Waits, Reads}
use Rattle.live_value.specs.Pasts.{only, all, followed, IsLater}
use Rattle.live_value.specs.Lanes.{IsLane, doing, offered, turn, waits, stays, goes, moves}

-- 7 was published, and then 8 and 9
abbrev three : Past ℕ
three = followed (followed (only 7) 8) 9

pub all_three : all three ≡ 7 ∷ 8 ∷ 9 ∷ []
all_three = refl

pub last_of_three : three.latest ≡ 9
last_of_three = refl

pub begins : IsLater three (only 7)
begins = (8 ∷ 9 ∷ [], refl)

-- what a slot holds is its value here
abbrev itself : ℕ → ℕ
itself x = x

-- the reader waits, and takes slot 0 next
pub waiting : IsLane itself record {
  words = 0 ∷ [];
  homes = some (Some 9) ∷ none ∷ [];
  views = doing (Writes 0) (followed (only 7) 9) ∷ doing Waits (only 7) ∷ [];
}
waiting = waits [] 0 0 9 (followed (only 7) 9) (only 7) (lit< tt) refl refl (9 ∷ [], refl)

-- the writer showed 10 in slot 1
pub shown : IsLane itself record {
  words = 1 ∷ [];
  homes = none ∷ some (Some 10) ∷ [];
  views = doing (Writes 1) (followed (followed (only 7) 9) 10) ∷ doing Waits (only 7) ∷ [];
}
shown = waits [] 1 1 10 (followed (followed (only 7) 9) 10) (only 7) (lit< tt) refl refl (9 ∷ 10 ∷ [], refl)

-- it showed 10 there while the reader had slot 0, and the word became 3
pub shown_beside : IsLane itself record {
  words = 3 ∷ [];
  homes = none ∷ some (Some 10) ∷ [];
  views = doing (Awaits 1 3) (followed (only 9) 10) ∷ doing (Reads 0) (only 9) ∷ [];
}
shown_beside = stays [] 1 3 10 (followed (only 9) 10) (only 9) (lit< tt) refl refl (10 ∷ [], refl)

-- the reader gave slot 0 back
pub gone : IsLane itself record {
  words = 5 ∷ [];
  homes = some (Some 9) ∷ some (Some 10) ∷ [];
  views = doing (Awaits 1 3) (followed (only 9) 10) ∷ doing Waits (only 9) ∷ [];
}
gone = goes [] 1 5 3 9 10 (followed (only 9) 10) (only 9) (lit< tt) refl refl (10 ∷ [], refl)

-- and took slot 1
pub moved : IsLane itself record {
  words = 7 ∷ [];
  homes = some (Some 9) ∷ none ∷ [];
  views = doing (Awaits 1 3) (followed (only 9) 10) ∷ doing (Reads 1) (followed (only 9) 10) ∷ [];
}
moved = moves [] 1 7 3 9 (followed (only 9) 10) (lit< tt) refl

-- slot 0 is next after 1 is added to a word, and slot 1 after 2^64 - 1 is
pub turned_to_0 : (5 + turn 1) % 2 ^ 64 ≡ 4
turned_to_0 = refl

pub turned_to_1 : (4 + turn 0) % 2 ^ 64 ≡ 5
turned_to_1 = refl

pub offers : offered itself 0 ((1, Some 10) ∷ []) ≡ 10
offers = refl

pub offers_nothing : offered itself 0 ((1, None) ∷ []) ≡ 0
offers_nothing = refl
