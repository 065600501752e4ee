-- Worked cases, which the checker computes: states of a lock, and what its steps make of them. The fact is that the
-- value is at most the key, which is 9.
use Rattle.std.proofs.Common.{◌≡◌, ℕ, ◌≤◌, [], ◌∷◌, Option, Some, refl, arith}
use mathlib.Core.Option.{none, some}
use Rattle.atomic_table.specs.Table.{State, opening, stepped, step, gives}
use Rattle.ringapi.specs.Locks.{IsLock, free, taken, gives_back}
use Rattle.ringapi.specs.Locks as lock

abbrev at_most : ℕ → ℕ → Type 0
at_most key value = value ≤ key

-- a new lock with 4 in it; the first seat knows the key
abbrev new : State (Option ℕ) ℕ
new = opening (0 ∷ []) (Some 4 ∷ []) 9

pub new_is_lock : IsLock (at_most 9) new
new_is_lock = free (9 ∷ []) 4 (omega arith)

-- a second seat has the value
abbrev out : State (Option ℕ) ℕ
out = record { words = 1 ∷ []; homes = none ∷ []; views = 9 ∷ 9 ∷ [] }

pub out_is_lock : IsLock (at_most 9) out
out_is_lock = taken (9 ∷ 9 ∷ [])

-- the second seat, with 7 in its slot, stores 0
pub back : stepped out 0 0 1 ((0, Some 7) ∷ []) 9 gives ≡ record {
  words = 0 ∷ [];
  homes = some (Some 7) ∷ [];
  views = 9 ∷ 9 ∷ [];
}
back = refl

pub back_is_lock : IsLock (at_most 9) (stepped out 0 0 1 ((0, Some 7) ∷ []) 9 gives)
back_is_lock = free (9 ∷ 9 ∷ []) 7 (omega arith)

-- a seat that found 0 has the slot, with a value of which the fact holds
pub took : lock.takes at_most (step 1 0 1 0 none) (9, []) 0 (9, (0, Some 4) ∷ [])
took e = (4, omega arith, refl)

-- one that found 1 is told nothing
pub took_nothing : lock.takes at_most (step 1 0 1 0 none) (9, []) 1 (9, [])
took_nothing e = absurd (omega (arith, e))

pub gave : gives_back {T = ℕ} {K = ℕ} (step 1 0 0 0 none) (9, (0, Some 7) ∷ []) 0 (9, [])
gave = refl
