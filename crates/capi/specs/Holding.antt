-- What calls do while a hand holds a head/tail-sync side: its span stays open, and each call settles its first positions
use Rattle.std.specs.Prelude.{◌≡◌, ℕ, ◌<◌, ◌≤◌, ◌⊎◌, List, length, take, Ok, Err}
use Rattle.geom.specs.declared.plan.How.{How}
use Rattle.geom.specs.declared.plan.Mode.TheVariants.{Hts, Multi}
use Rattle.geom.specs.declared.plan.Side.TheVariants.{Put, Take}
use Rattle.ringcore_laws.specs.declared.protocol.Span.{Span}
use Rattle.fabric_laws.specs.Changes.{advanced, rest_of}
use Rattle.fabric_laws.specs.declared.view.View.{View}
use Rattle.fabric.specs.Hands.{OnRing}
use Rattle.fabric.specs.Held.{span_at}
use Rattle.fabric.specs.declared.hand.in_place.OpenSpan.{OpenSpan}
use Rattle.fabric.specs.declared.hand.in_place.OpenSpan.TheVariants as open_span
use Rattle.fabric.specs.declared.hand.in_place.Reserved.{Reserved}
use Rattle.capi.specs.Calls.{Refuses}
use Rattle.capi.specs.Codes.{Outcome}
use Rattle.capi.specs.Members.{Rings}
use Rattle.capi.specs.RingCalls.{KeepsRings, OnHts, OnPutting, SameMember, member_view}
use Rattle.capi.specs.Spans.{HasReserved, HasSettled, limit_of}
use Rattle.capi.specs.declared.rings.fault.Fault.TheVariants as fault
use Rattle.capi.specs.declared.rings.member.Member.{Member}
use Rattle.capi.specs.declared.rings.word64.Word64.{Word64}

-- a call of a hand that holds a take side
abbrev pub OnHeld : OpenSpan → Outcome → Type 0 → (Span → Type 0) → Type 0
OnHeld open_span.Idle outcome same does = (outcome ≡ Err fault.NotOpen) × same
OnHeld (open_span.Put r) outcome same does = (outcome ≡ Err fault.NotOpen) × same
OnHeld (open_span.Take r) outcome same does = (outcome ≡ Err fault.NotOpen) × same
OnHeld (open_span.Held r) outcome same does = does (span_at Take r)

-- the first positions of the span were settled with these words by one store, and the others are still the hand's
pub record HasAdvanced (span : Span) (words : List Word64) (v w : View Word64) (after : Span) : Type 0 where
  pub fewer : length words < span.count
  pub view : w ≡ advanced span words v
  pub rest : after ≡ rest_of span (length words)

-- a take side of a head/tail-sync ring is held: its words are in `shown` of the view, and stay queued
pub record IsHeldNow (f : Rings) (how : How) (n ring : ℕ) (v : View Word64) (count left : ℕ) (at : OpenSpan)
    (w : View Word64) : Type 0 where
  pub r : Reserved
  pub held : at ≡ open_span.Held r
  pub reserved : HasReserved f (limit_of Hts) how n ring Take v (span_at Take r) left w.shown w
  pub many : r.range.count ≡ count
  pub shown : length w.shown ≡ count

module _ (same : Type 0) where
  -- words were published at the first positions of a put span
  abbrev pub Publishes : Rings → Span → View Word64 → List Word64 → OpenSpan → View Word64 → Outcome → Type 0
  Publishes f span v words at w (Ok count) = (count ≡ length words)
      × (r : Reserved) × (at ≡ open_span.Put r) × HasAdvanced span words v w (span_at Put r)
  Publishes f span v words at w (Err why) = same × (((why ≡ fault.Mode) × OnRing f span.ring (λ plan. plan.put ≡ Multi))
      ⊎ ((why ≡ fault.Count) × (span.count ≤ length words)))

  -- the next words of a held side fill the array
  abbrev pub TakesNext : Span → View Word64 → List Word64 → List Word64 → OpenSpan → View Word64 → Outcome → Type 0
  TakesNext span v before after at w (Ok count) = (count ≡ length before) × (after ≡ take count v.shown)
      × (r : Reserved) × (at ≡ open_span.Held r) × HasAdvanced span (take count v.shown) v w (span_at Take r)
  TakesNext span v before after at w (Err why) =
      same × (after ≡ before) × (why ≡ fault.Count) × (span.count ≤ length before)

  -- the next words of a held side fill the array, and the others are queued again: the side is given up
  abbrev pub TakesLast : Span → View Word64 → List Word64 → List Word64 → OpenSpan → View Word64 → Outcome → Type 0
  TakesLast span v before after at w (Ok count) = (count ≡ length before) × (count ≤ span.count)
      × (after ≡ take count v.shown) × (at ≡ open_span.Idle) × HasSettled span after v w
  TakesLast span v before after at w (Err why) =
      same × (after ≡ before) × (why ≡ fault.Count) × (span.count < length before)

abbrev pub AdvancesPut : List Word64 → Member → Member → Outcome → Type 0
AdvancesPut words m u outcome = OnPutting m outcome (SameMember m u) (λ span v. KeepsRings m u
    × Publishes (SameMember m u) m.port.fabric.value span v words u.port.hand.span (member_view u) outcome)

module _ (f : Rings) (how : How) (n ring : ℕ) (v : View Word64) where
  abbrev pub Holds : ℕ → OpenSpan → View Word64 → Outcome → Type 0
  Holds left at w (Ok count) = IsHeldNow f how n ring v count left at w
  Holds left at w (Err why) = Refuses f (limit_of Hts) how n ring Take v why left w

abbrev pub HoldsTake : ℕ → How → ℕ → Member → Member → Outcome → Type 0
HoldsTake ring how n m u outcome = OnHts ring Take m outcome (SameMember m u) (λ v. KeepsRings m u
    × Holds m.port.fabric.value how n ring v u.left u.port.hand.span (member_view u) outcome)

abbrev pub AdvancesTake : List Word64 → List Word64 → Member → Member → Outcome → Type 0
AdvancesTake before after m u outcome = OnHeld m.port.hand.span outcome (SameMember m u × (after ≡ before))
    (λ span. KeepsRings m u
    × TakesNext (SameMember m u) span (member_view m) before after u.port.hand.span (member_view u) outcome)

abbrev pub EndsHeld : List Word64 → List Word64 → Member → Member → Outcome → Type 0
EndsHeld before after m u outcome = OnHeld m.port.hand.span outcome (SameMember m u × (after ≡ before))
    (λ span. KeepsRings m u
    × TakesLast (SameMember m u) span (member_view m) before after u.port.hand.span (member_view u) outcome)
