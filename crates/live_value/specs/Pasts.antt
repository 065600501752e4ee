-- The values that were published, oldest first.
use Rattle.std.specs.Prelude.{◌≡◌, ℕ, List, [], ◌∷◌, ◌++◌, refl}
use mathlib.Core.Option.{some}
use Rattle.atomic_table.specs.Table.{Me, Step}
use Rattle.std.specs.Coded.{Coded, code_by, coded×, coded_list}
use Rattle.live_value.specs.declared.past.Past.{Past}

-- it is stored as a pair
abbrev pub past_code : {T : Type 0} → Coded T → Coded (Past T)
past_code {T} c = code_by (List T
    × T) (coded× (coded_list c) c) (λ p. (p.before, p.latest)) (λ q. record { before = q.0; latest = q.1 }) (λ _. refl)

module _ {T : Type 0} where
  abbrev pub only : T → Past T
  only x = record { before = []; latest = x }

  -- all of them
  abbrev pub all : Past T → List T
  all p = p.before ++ p.latest ∷ []

  -- and then this one
  abbrev pub followed : Past T → T → Past T
  followed p x = record { before = all p; latest = x }

  -- w begins with all that v has
  abbrev pub IsLater : Past T → Past T → Type 0
  IsLater w v = (rest : List T) × (all w ≡ all v ++ rest)

  -- a step that tells of one more value: it follows on what was known
  abbrev pub appends : Step T → Me T (Past T) → ℕ → Me T (Past T) → Type 0
  appends st m n w = (x : T) → st.said ≡ some x → w ≡ (followed m.0 x, m.1)
