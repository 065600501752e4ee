-- States that are none: each breaks one thing alone. The fact is that the value is at most the key, which is 9.
use Rattle.std.proofs.Common.{◌≡◌, ℕ, ◌-◌, ◌*◌, ◌≤◌, List, [], ◌∷◌, Option, Some, None, refl, arith}
use mathlib.Core.Option.{none, some}
use mathlib.Core.Option as home
use Rattle.atomic_table.specs.Table.{State}
use Rattle.ringapi.specs.Locks.{IsLock, free, taken}

abbrev at_most_9 : ℕ → Type 0
at_most_9 value = value ≤ 9

abbrev state : List ℕ → List (home.Option (Option ℕ)) → State (Option ℕ) ℕ
state words homes = record { words = words; homes = homes; views = 9 ∷ [] }

-- the first number of a list, or 5
abbrev head : List ℕ → ℕ
head [] = 5
head (n ∷ ns) = n

-- 0 where slot 0 is out, 1 where it is empty, 2 where it has a value
abbrev kind : List (home.Option (Option ℕ)) → ℕ
kind [] = 3
kind (none ∷ hs) = 0
kind (some None ∷ hs) = 1
kind (some (Some x) ∷ hs) = 2

abbrev value_of : List (home.Option (Option ℕ)) → ℕ
value_of [] = 0
value_of (none ∷ hs) = 0
value_of (some None ∷ hs) = 0
value_of (some (Some x) ∷ hs) = x

-- the word says whether the slot is out
agree : (s : State (Option ℕ) ℕ) → IsLock at_most_9 s → kind s.homes ≡ 2 - 2 * head s.words
agree s (free seats x h) = refl
agree s (taken seats) = refl

word_is_small : (s : State (Option ℕ) ℕ) → IsLock at_most_9 s → head s.words ≤ 1
word_is_small s (free seats x h) = omega arith
word_is_small s (taken seats) = omega arith

keeps_fact : (s : State (Option ℕ) ℕ) → IsLock at_most_9 s → value_of s.homes ≤ 9
keeps_fact s (free seats x h) = h
keeps_fact s (taken seats) = omega arith

-- the word is 0, and the slot is out
pub out_at_0 : IsLock at_most_9 (state (0 ∷ []) (none ∷ [])) → ⊥
out_at_0 h = let e = agree _ h in absurd (omega (arith, e))

-- the word is 0, and the slot is empty
pub empty_at_0 : IsLock at_most_9 (state (0 ∷ []) (some None ∷ [])) → ⊥
empty_at_0 h = let e = agree _ h in absurd (omega (arith, e))

-- the word is 1, and the value is in the slot
pub in_at_1 : IsLock at_most_9 (state (1 ∷ []) (some (Some 4) ∷ [])) → ⊥
in_at_1 h = let e = agree _ h in absurd (omega (arith, e))

-- the word is 2
pub word_2 : IsLock at_most_9 (state (2 ∷ []) (none ∷ [])) → ⊥
word_2 h = let e = word_is_small _ h in absurd (omega (arith, e))

-- the fact doesn't hold of the value
pub too_much : IsLock at_most_9 (state (0 ∷ []) (some (Some 10) ∷ [])) → ⊥
too_much h = let e = keeps_fact _ h in absurd (omega (arith, e))
