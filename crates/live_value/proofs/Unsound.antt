-- States that are none: each breaks one thing alone.
use Rattle.std.proofs.Common.{◌≡◌, ℕ, zero, suc, Bool, true, false, List, [], ◌∷◌, Option, None, refl, ap}
use Rattle.std.proofs.Common.{arith}
use mathlib.Core.Option.{none, some, some-ne-none, some-injective}
use lib.ListN.{get_elem?}
use Rattle.atomic_table.specs.Table.{State}
use Rattle.live_value.specs.declared.past.Past.{Past}
use Rattle.live_value.specs.declared.line.Line.{Line}
use Rattle.live_value.specs.declared.lane.Doing.{Doing}
use Rattle.live_value.specs.declared.lane.Role.TheVariants.{Writes, Waits}
use Rattle.live_value.specs.Pasts.{only, all, followed}
use Rattle.live_value.specs.Lanes.{IsLane, doing, opens, holds, waits, reads, stays, goes, moves}
use Rattle.live_value.specs.Lines.{IsShown}
use Rattle.live_value.specs.Publishing.{IsPublisher}

abbrev itself : ℕ → ℕ
itself x = x

abbrev word_of : State (Option ℕ) (Doing ℕ) → ℕ
word_of s = head s.words
  where
    head : List ℕ → ℕ
    head [] = 9
    head (n ∷ ns) = n

-- while bit 1 of the word isn't set and bit 0 isn't, slot 0 is at home
at_home : (s : State (Option ℕ) (Doing ℕ)) → IsLane itself s → word_of s ≡ 0 → get_elem? s.homes 0 ≡ some none → ⊥
at_home s (opens pads x p e) word home = some-ne-none _ (some-injective _ _ home)
at_home s (holds pads x p e) word home = some-ne-none _ (some-injective _ _ home)
at_home s (waits pads zero n x p q b o e l) word home = some-ne-none _ (some-injective _ _ home)
at_home s (waits pads (suc k) n x p q b o e l) word home = absurd (omega (arith, o, word))
at_home s (reads pads k n p b i) word home = absurd (omega (arith, i, word))
at_home s (stays pads k n y p q b i e l) word home = absurd (omega (arith, i, word))
at_home s (goes pads zero n m x y p q b o e l) word home = some-ne-none _ (some-injective _ _ home)
at_home s (goes pads (suc k) n m x y p q b o e l) word home = absurd (omega (arith, o, word))
at_home s (moves pads k n m x p b i) word home = absurd (omega (arith, i, word))

-- the reader's next slot is out
pub slot_gone : IsLane itself record {
  words = 0 ∷ [];
  homes = none ∷ none ∷ [];
  views = doing (Writes 0) (only 7) ∷ doing Waits (only 7) ∷ [];
} → ⊥
slot_gone h = at_home _ h refl refl

-- a reader that was shown this, whether it owes a value, and whether it is late
abbrev line_of : Past ℕ → Bool → Bool → Line ℕ
line_of seen owed late = record { showing = record { seen = seen; owed = owed }; is_late = late }

-- a reader was shown less than all, and isn't late
pub not_shown : IsShown {T = ℕ} (followed (only 7) 8) true (line_of (only 7) false false) → ⊥
not_shown h = let e = ap (λ p. p.latest) (h.all refl) in absurd (omega (arith, e))

-- a reader is late by two
pub late_by_two : IsShown {T = ℕ} (followed (followed (only 7) 8) 9) true (line_of (only 7) false true) → ⊥
late_by_two h = let e = ap (λ p. second_of (all p)) ((h.late refl).0) in absurd (omega (arith, e))
  where
    second_of : List ℕ → ℕ
    second_of [] = 0
    second_of (x ∷ []) = 0
    second_of (x ∷ y ∷ ys) = y

-- a reader is late, though nothing is behind
pub late_for_nothing : IsShown {T = ℕ} (followed (only 7) 8) false (line_of (only 7) false true) → ⊥
late_for_nothing h = let e = ap number (h.none refl).shown in absurd (omega (arith, e))
  where
    number : Bool → ℕ
    number true = 1
    number false = 0

-- the value before the last isn't back from a reader, though nothing is behind
pub owed_for_nothing : IsShown {T = ℕ} (only 7) false (line_of (only 7) true false) → ⊥
owed_for_nothing h = let e = ap number (h.none refl).back in absurd (omega (arith, e))
  where
    number : Bool → ℕ
    number true = 1
    number false = 0

-- what is shown isn't what was published last
pub other_shown : IsPublisher itself (only 7) 8 None [] → ⊥
other_shown h = let e = h.last in absurd (omega (arith, e))
