-- What each call of C's does to a hand and its rings: `m` is the hand before the call, `u` after it
use Rattle.std.specs.Prelude.{◌≡◌, ℕ, ◌-◌, ◌^◌, ◌<◌, ◌≤◌, ◌⊎◌, List, length, Ok, Err, min}
use Rattle.geom.specs.declared.plan.How.{How}
use Rattle.geom.specs.declared.plan.Side.{Side}
use Rattle.geom.specs.declared.plan.Side.TheVariants.{Put, Take}
use Rattle.fabric.specs.Hands.{rings_of}
use Rattle.fabric.specs.declared.hand.in_place.OpenSpan.{OpenSpan}
use Rattle.fabric.specs.declared.hand.in_place.OpenSpan.TheVariants as open_span
use Rattle.capi.specs.Calls.{PeeksPut, PeeksTake, Puts, Takes}
use Rattle.capi.specs.Codes.{Outcome}
use Rattle.capi.specs.Finishes.{FinishesPut, FinishesTake}
use Rattle.capi.specs.Counts.{Looks}
use Rattle.capi.specs.RingCalls.{KeepsRings, OnHts, OnPutting, OnRings, OnTaking, SameButLoads, SameMember, member_view}
use Rattle.capi.specs.Spans.{tags}
use Rattle.capi.specs.declared.rings.fault.Fault.TheVariants as fault
use Rattle.capi.specs.declared.rings.member.Member.{Member}
use Rattle.capi.specs.declared.rings.word64.Word64.{Word64}

module _ (ring : ℕ) (how : How) where
  abbrev pub PutsWords : List Word64 → Member → Member → Outcome → Type 0
  PutsWords words m u outcome = OnRings ring m outcome (SameMember m u) (λ v. KeepsRings m u
      × Puts m.port.fabric.value how ring v words u.left (member_view u) outcome)

  abbrev pub TakesWords : List Word64 → List Word64 → Member → Member → Outcome → Type 0
  TakesWords before after m u outcome = OnRings ring m outcome (SameMember m u × (after ≡ before)) (λ v. KeepsRings m u
      × Takes m.port.fabric.value how ring v before after u.left (member_view u) outcome)

  abbrev pub OpensPut : ℕ → Member → Member → Outcome → Type 0
  OpensPut n m u outcome = OnHts ring Put m outcome (SameMember m u) (λ v. KeepsRings m u
      × PeeksPut m.port.fabric.value how ring v n u.left (member_view u) outcome)

  abbrev pub OpensTake : List Word64 → List Word64 → Member → Member → Outcome → Type 0
  OpensTake before after m u outcome = OnHts ring Take m outcome (SameMember m u × (after ≡ before)) (λ v. KeepsRings m u
      × PeeksTake m.port.fabric.value how ring v before after u.left (member_view u) outcome)

abbrev pub EndsPut : List Word64 → Member → Member → Outcome → Type 0
EndsPut words m u outcome = OnPutting m outcome (SameMember m u) (λ span v. KeepsRings m u
    × FinishesPut m.port.fabric.value span v words (member_view u) outcome)

abbrev pub EndsTake : ℕ → Member → Member → Outcome → Type 0
EndsTake n m u outcome = OnTaking m outcome (SameMember m u) (λ span v. KeepsRings m u
    × FinishesTake m.port.fabric.value span v n (member_view u) outcome)

-- a look at a ring, with a span open or without
abbrev pub LooksAt : ℕ → Side → Member → Member → Outcome → Type 0
LooksAt ring side m u outcome =
    ((length (rings_of m.port.fabric.value) ≤ ring) × (outcome ≡ Err fault.Ring) × SameMember m u)
    ⊎ ((ring < length (rings_of m.port.fabric.value)) × SameButLoads m u
    × Looks tags m.port.fabric.value ring side (member_view m) (member_view u) outcome)

-- 0 with no open span, 1 with one of a put, 2 with one of a take, 3 while it holds a take side
abbrev pub span_kind : OpenSpan → ℕ
span_kind open_span.Idle = 0
span_kind (open_span.Put r) = 1
span_kind (open_span.Take r) = 2
span_kind (open_span.Held r) = 3

abbrev pub TellsSpan : Member → Member → Outcome → Type 0
TellsSpan m u outcome = (u ≡ m) × (outcome ≡ Ok (span_kind m.port.hand.span))

-- how many positions more were free, or words queued, when the last call looked
abbrev pub TellsLeft : Member → Member → Outcome → Type 0
TellsLeft m u outcome = (u ≡ m) × (outcome ≡ Ok (min m.left (2 ^ 32 - 1)))
