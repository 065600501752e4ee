-- What is true between any two steps on a lane, and what each step tells.
use Rattle.std.specs.Prelude.{◌≡◌, ◌≢◌, ℕ, zero, suc, ◌+◌, ◌-◌, ◌<◌, ◌≤◌, ◌%◌, ◌^◌, Bool, true, false, List, [], ◌∷◌, Option, Some, None}
use mathlib.Core.Option.{none, some}
use Rattle.atomic_table.specs.Table.{State, Me, Step}
use Rattle.atomic_table.specs.Seated.{TableId}
use Rattle.live_value.specs.declared.past.Past.{Past}
use Rattle.live_value.specs.declared.lane.Doing.{Doing}
use Rattle.live_value.specs.declared.lane.Role.{Role}
use Rattle.live_value.specs.declared.lane.Role.TheVariants.{Opens, Holds, Writes, Awaits, Waits, Reads}
use Rattle.live_value.specs.Pasts.{followed, IsLater}

abbrev pub doing : {T : Type 0} → Role → Past T → Doing T
doing role past = record { role = role; past = past }

abbrev pub value_or : {X T : Type 0} → (X → T) → T → Option X → T
value_or value d None = d
value_or value d (Some x) = value x

-- a for the slot k, and b for the other
abbrev pub pair : {A : Type 0} → ℕ → A → A → List A
pair zero a b = a ∷ b ∷ []
pair (suc k) a b = b ∷ a ∷ []

-- the reader takes the slot k next, and has none; or it has one
abbrev pub IsOut : ℕ → ℕ → Type 0
IsOut word k = word % 4 ≡ k

abbrev pub IsIn : ℕ → ℕ → Type 0
IsIn word k = word % 4 ≡ k + 2

-- X is what a slot holds, with a value of T. What the reader has seen, the writer's list begins with.
pub data IsLane {X T : Type 0} (value : X → T) : State (Option X) (Doing T) → Type 0 where
  opens : (pads : List ℕ) (x : X) (p : Past T) → p.latest ≡ value x
      → IsLane value record { words = 0 ∷ pads; homes = some (Some x) ∷ some None ∷ []; views = doing Opens p ∷ [] }
  holds : (pads : List ℕ) (x : X) (p : Past T) → p.latest ≡ value x
      → IsLane value record { words = 0 ∷ pads; homes = some (Some x) ∷ none ∷ []; views = doing Holds p ∷ [] }
  -- the writer has the other slot
  waits : (pads : List ℕ) (k n : ℕ) (x : X) (p q : Past T) → k < 2 → IsOut n k → p.latest ≡ value x → IsLater p q
      → IsLane value record {
        words = n ∷ pads;
        homes = pair k (some (Some x)) none;
        views = doing (Writes k) p ∷ doing Waits q ∷ [];
      }
  reads : (pads : List ℕ) (k n : ℕ) (p : Past T) → k < 2 → IsIn n k
      → IsLane value record {
        words = n ∷ pads;
        homes = none ∷ none ∷ [];
        views = doing (Writes k) p ∷ doing (Reads k) p ∷ [];
      }
  -- a value was shown in the slot k while the reader had the other, and it has that still
  stays : (pads : List ℕ) (k n : ℕ) (y : X) (p q : Past T) → k < 2 → IsIn n k → p.latest ≡ value y → IsLater p q
      → IsLane value record {
        words = n ∷ pads;
        homes = pair k (some (Some y)) none;
        views = doing (Awaits k n) p ∷ doing (Reads (1 - k)) q ∷ [];
      }
  -- it has given it back
  goes : (pads : List ℕ) (k n m : ℕ) (x y : X) (p q : Past T) → k < 2 → IsOut n k → p.latest ≡ value y → IsLater p q
      → IsLane value record {
        words = n ∷ pads;
        homes = pair k (some (Some y)) (some (Some x));
        views = doing (Awaits k m) p ∷ doing Waits q ∷ [];
      }
  -- and has the slot k
  moves : (pads : List ℕ) (k n m : ℕ) (x : X) (p : Past T) → k < 2 → IsIn n k
      → IsLane value record {
        words = n ∷ pads;
        homes = pair k none (some (Some x));
        views = doing (Awaits k m) p ∷ doing (Reads k) p ∷ [];
      }

-- the slot of the writer's role, and the word that it awaits a change of
abbrev pub side_of : Role → ℕ
side_of Opens = 0
side_of Holds = 0
side_of (Writes k) = k
side_of (Awaits k n) = k
side_of Waits = 0
side_of (Reads k) = k

abbrev pub awaited_of : Role → ℕ
awaited_of Opens = 0
awaited_of Holds = 0
awaited_of (Writes k) = 0
awaited_of (Awaits k n) = n
awaited_of Waits = 0
awaited_of (Reads k) = 0

-- what is added to the word to change the slot that is next, which is k
abbrev pub turn : ℕ → ℕ
turn zero = 1
turn (suc k) = 2 ^ 64 - 1

-- what a step on a lane tells, of what a seat knew and had before it, of the number found, and of what it knows and has
-- afterwards
module _ {X T : Type 0} where
  -- the writer takes the empty slot
  abbrev pub takes : Step (Option X) → Me (Option X) (Doing T) → ℕ → Me (Option X) (Doing T) → Type 0
  takes st m n w = w ≡ (doing Holds m.0.past, (1, None) ∷ [])

  -- the reader takes the slot of the number found. Its value is the last that was published, and the reader has now
  -- seen all up to it
  abbrev pub enters : (X → T) → Step (Option X) → Me (Option X) (Doing T) → ℕ → Me (Option X) (Doing T) → Type 0
  enters value st m n w =
      (x : X) × (p : Past T) × IsLater p m.0.past × (p.latest ≡ value x)
      × (w ≡ (doing (Reads (n % 2)) p, (n % 2, Some x) ∷ []))

  -- it gives it back
  abbrev pub leaves : Step (Option X) → Me (Option X) (Doing T) → ℕ → Me (Option X) (Doing T) → Type 0
  leaves st m n w = w ≡ (doing Waits m.0.past, [])

  -- the value in the slot that a seat has, and d where there is none
  abbrev pub offered : (X → T) → T → List (ℕ × Option X) → T
  offered value d [] = d
  offered value d (y ∷ ys) = value_or value d y.1

  abbrev pub published : (X → T) → Me (Option X) (Doing T) → Past T
  published value m = followed m.0.past (offered value m.0.past.latest m.1)

  -- the writer's slot becomes the next. Where the reader had none, the writer has the other at once
  abbrev pub shows : (X → T) → Step (Option X) → Me (Option X) (Doing T) → ℕ → Me (Option X) (Doing T) → Type 0
  shows value st m n w = let k = side_of m.0.role in
      ((n % 4 < 2) → (x : X) × (w ≡ (doing (Writes (1 - k)) (published value m), (k, Some x) ∷ [])))
      × ((2 ≤ n % 4) → w ≡ (doing (Awaits (1 - k) ((n + st.first) % 2 ^ 64)) (published value m), []))

  -- the writer has the other slot if the word isn't the one that it awaits a change of; otherwise nothing changes
  abbrev pub collects : Step (Option X) → Me (Option X) (Doing T) → ℕ → Me (Option X) (Doing T) → Type 0
  collects st m n w = let k = side_of m.0.role in
      ((n ≢ awaited_of m.0.role) → (x : X) × (w ≡ (doing (Writes k) m.0.past, (1 - k, Some x) ∷ [])))
      × ((n ≡ awaited_of m.0.role) → w ≡ m)

-- the size of a lane, which is the same for all
abbrev pub IsSized : TableId → Type 0
IsSized z = (z.words ≡ 16) × (z.slots ≡ 2)

-- whether there is one
abbrev pub is_some : {X : Type 0} → Option X → Bool
is_some None = false
is_some (Some x) = true

module _ {X T : Type 0} where
  -- the reader outside of a call, and with the slot that it has taken, from which it took its content
  abbrev pub reader_at : Option X → ℕ → Past T → Me (Option X) (Doing T)
  reader_at None side p = (doing Waits p, [])
  reader_at (Some x) side p = (doing (Reads side) p, (side, None) ∷ [])

  -- what the reader took is the last value that it has seen
  abbrev pub IsLast : (X → T) → Option X → Past T → Type 0
  IsLast value None p = Unit {0}
  IsLast value (Some x) p = p.latest ≡ value x

  pub record IsReader (value : X
      → T) (table own : TableId) (me : Me (Option X) (Doing T)) (held : Option X) (side : ℕ) : Type 0 where
    pub seated : own ≡ table
    pub sized : IsSized table
    pub small : side < 2
    pub at : me ≡ reader_at held side me.0.past
    pub last : IsLast value held me.0.past

  -- the writer between two calls: with an empty slot, or while the reader may have it
  abbrev pub writer_at : Option ℕ → ℕ → Past T → Me (Option X) (Doing T)
  writer_at None side p = (doing (Writes side) p, (1 - side, None) ∷ [])
  writer_at (Some word) side p = (doing (Awaits side word) p, [])

  pub record IsWriter (table own : TableId) (me : Me (Option X) (Doing T)) (awaited : Option ℕ) (side : ℕ) : Type 0 where
    pub seated : own ≡ table
    pub sized : IsSized table
    pub small : side < 2
    pub at : me ≡ writer_at awaited side me.0.past

-- a reader as its callers see it: what it has seen, and whether it has the last of it in hand
pub record Glance (T : Type 0) : Type 0 where
  pub seen : Past T
  pub inside : Bool

-- what the writer has shown to one reader, and whether that may still have the value before the last
pub record Shown (T : Type 0) : Type 0 where
  pub seen : Past T
  pub owed : Bool
