-- What finishing an open span leaves of a hand
use Rattle.std.specs.Prelude.{◌≡◌, ℕ, ◌<◌, ◌≤◌, ◌⊎◌, List, length, take, Ok, Err}
use Rattle.geom.specs.declared.plan.Mode.{Mode}
use Rattle.geom.specs.declared.plan.Mode.TheVariants.{Multi, Hts}
use Rattle.geom.specs.declared.plan.Side.{Side}
use Rattle.geom.specs.declared.plan.Side.TheVariants.{Put, Take}
use Rattle.geom.specs.Plan.{mode_of}
use Rattle.ringcore_laws.specs.declared.protocol.Span.{Span}
use Rattle.fabric_laws.specs.declared.view.View.{View}
use Rattle.fabric.specs.Hands.{OnRing}
use Rattle.fabric.specs.Settles.{IsCount}
use Rattle.capi.specs.Codes.{Outcome}
use Rattle.capi.specs.Members.{Rings}
use Rattle.capi.specs.Spans.{HasSettled, IsEarly}
use Rattle.capi.specs.declared.rings.fault.Fault.{Fault}
use Rattle.capi.specs.declared.rings.fault.Fault.TheVariants as fault
use Rattle.capi.specs.declared.rings.word64.Word64.{Word64}

-- a count that doesn't fit a span: of a multi side too few, of an HTS side too many
abbrev pub DoesNotFit : Mode → ℕ → ℕ → Type 0
DoesNotFit Multi n count = n < count
DoesNotFit Hts n count = count < n

-- how many of a span's positions a count of n settles: on a multi side all, on an HTS side n
abbrev pub settled_by : Mode → ℕ → ℕ → ℕ
settled_by Multi n count = count
settled_by Hts n count = n

-- and that may be settled
abbrev pub Settles : Mode → ℕ → ℕ → ℕ → Type 0
Settles mode n count k = (k ≡ settled_by mode n count) × IsCount mode k count

module _ (f : Rings) (span : Span) (v : View Word64) where
  -- why the span is open as before
  abbrev pub StaysOpen : Side → ℕ → View Word64 → Fault → Type 0
  StaysOpen side n w why =
      ((why ≡ fault.Count) × (w ≡ v) × OnRing f span.ring (λ plan. DoesNotFit (mode_of plan side) n span.count))
      ⊎ ((why ≡ fault.Pending) × IsEarly f span v w)

  -- the first of these words were published at the first positions of the span: on an HTS side all of them
  abbrev pub FinishesPut : List Word64 → View Word64 → Outcome → Type 0
  FinishesPut words w (Ok count) = (count ≤ length words)
      × OnRing f span.ring (λ plan. Settles plan.put (length words) span.count count) × HasSettled span (take count words) v w
  FinishesPut words w (Err why) = StaysOpen Put (length words) w why

  -- the first of the words that the take showed were taken
  abbrev pub FinishesTake : ℕ → View Word64 → Outcome → Type 0
  FinishesTake n w (Ok count) = (count ≤ n) × OnRing f span.ring (λ plan. Settles plan.take n span.count count)
      × HasSettled span (take count v.shown) v w
  FinishesTake n w (Err why) = StaysOpen Take n w why
