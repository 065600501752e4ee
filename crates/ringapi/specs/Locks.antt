-- What is true between any two steps on a lock, and what each step tells.
use Rattle.std.specs.Prelude.{◌≡◌, ℕ, List, [], ◌∷◌, Option, Some}
use mathlib.Core.Option.{none, some}
use Rattle.atomic_table.specs.Table.{State, Me, Step}
use Rattle.atomic_table.specs.Seated.{TableId}

-- a lock as its callers see it: its key, and which one it is
pub record Lock (K : Type 0) : Type 0 where
  pub key : K
  pub id : TableId

module _ {T K : Type 0} (holds : T → Type 0) where
  -- the word is 0 and the slot has a value of which the fact holds, or the word is 1 and the slot is out
  pub data IsLock : State (Option T) K → Type 0 where
    free : (seats : List K) (x : T) → holds x
        → IsLock record { words = 0 ∷ []; homes = some (Some x) ∷ []; views = seats }
    taken : (seats : List K) → IsLock record { words = 1 ∷ []; homes = none ∷ []; views = seats }

-- what a step on a lock tells, of what a seat knew and had before it, of the number found, and of what it knows and has
-- afterwards; what each seat knows is the key
module _ {T K : Type 0} where
  -- the seat has the slot if it found 0, with a value of which the fact holds
  abbrev pub takes : (K → T → Type 0) → Step (Option T) → Me (Option T) K → ℕ → Me (Option T) K → Type 0
  takes holds st m n w = (n ≡ 0) → (x : T) × holds m.0 x × (w ≡ (m.0, (0, Some x) ∷ []))

  -- it gives the slot back
  abbrev pub gives_back : Step (Option T) → Me (Option T) K → ℕ → Me (Option T) K → Type 0
  gives_back st m n w = w ≡ (m.0, [])
