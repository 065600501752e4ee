-- What the calls of an end do to its hand: `m` is the hand before the call, `u` after it
use Rattle.std.specs.Prelude.{◌≡◌, ◌≢◌, Bool, true, false, ℕ, ◌<◌, ◌≤◌, ◌⊎◌, List, [], ◌∷◌, length, Ok, Err}
use Rattle.geom.specs.declared.plan.How.TheVariants.{Burst}
use Rattle.geom.specs.declared.plan.Mode.TheVariants.{Hts, Multi}
use Rattle.geom.specs.declared.plan.Side.{Side}
use Rattle.geom.specs.declared.plan.Side.TheVariants.{Put, Take}
use Rattle.fabric.specs.Hands.{rings_of}
use Rattle.fabric.specs.Places.{place_mode, place_ring}
use Rattle.fabric.specs.declared.hand.in_place.OpenSpan.{OpenSpan}
use Rattle.fabric.specs.declared.hand.in_place.OpenSpan.TheVariants as open_span
use Rattle.capi.specs.Calls.{PutsOne, TakesOne}
use Rattle.capi.specs.Codes.{Outcome}
use Rattle.capi.specs.Ends.{end_on, with_end}
use Rattle.capi.specs.Holding.{AdvancesPut, AdvancesTake, EndsHeld, HoldsTake}
use Rattle.capi.specs.MemberCalls.{EndsPut, OpensPut}
use Rattle.capi.specs.RingCalls.{KeepsRings, OnIdle, SameMember, member_view}
use Rattle.capi.specs.declared.rings.end.End.{End}
use Rattle.capi.specs.declared.rings.end.EndState.{EndState}
use Rattle.capi.specs.declared.rings.end.EndState.TheVariants.{Closed, Open, Holds}
use Rattle.capi.specs.declared.rings.fault.Fault.{Fault}
use Rattle.capi.specs.declared.rings.fault.Fault.TheVariants as fault
use Rattle.capi.specs.declared.rings.member.Member.{Member}
use Rattle.capi.specs.declared.rings.word64.Word64.{Word64}

-- the hand has another span open
abbrev pub IsBusy : Outcome → Type 0 → Type 0
IsBusy outcome same = (outcome ≡ Err fault.Open) × same

-- puts of one word, at a ring
module _ (ring : ℕ) (word : Word64) where
  -- by a whole call. It doesn't say how much room is left
  abbrev pub PutsAlone : Member → Member → Outcome → Type 0
  PutsAlone m u outcome = OnIdle m.port.hand.span outcome (SameMember m u) (KeepsRings m u
      × PutsOne m.port.fabric.value ring (member_view m) word (member_view u) outcome)

  -- at the next position of an open span on the ring. With its last position the span is settled
  abbrev pub PutsNext : OpenSpan → Member → Member → Outcome → Type 0
  PutsNext (open_span.Put r) m u outcome =
      ((r.ring ≢ ring) × IsBusy outcome (SameMember m u))
      ⊎ (((r.ring ≡ ring) × (1 < r.range.count) × AdvancesPut (word ∷ []) m u outcome)
      ⊎ ((r.ring ≡ ring) × (r.range.count ≤ 1) × EndsPut (word ∷ []) m u outcome))
  PutsNext open_span.Idle m u outcome = IsBusy outcome (SameMember m u)
  PutsNext (open_span.Take r) m u outcome = IsBusy outcome (SameMember m u)
  PutsNext (open_span.Held r) m u outcome = IsBusy outcome (SameMember m u)

  -- on a held side: a hand without a span reserves positions first, at most so many
  abbrev pub PutsHeld : ℕ → OpenSpan → Member → Member → Outcome → Type 0
  PutsHeld most open_span.Idle m u outcome =
      ((why : Fault) × (outcome ≡ Err why) × OpensPut ring Burst most m u (Err why))
      ⊎ ((mid : Member) × (k : ℕ) × OpensPut ring Burst most m mid (Ok k) × PutsNext mid.port.hand.span mid u outcome)
  PutsHeld most (open_span.Put r) m u outcome = PutsNext (open_span.Put r) m u outcome
  PutsHeld most (open_span.Take r) m u outcome = IsBusy outcome (SameMember m u)
  PutsHeld most (open_span.Held r) m u outcome = IsBusy outcome (SameMember m u)

  abbrev pub PutsIn : EndState → Member → Member → Outcome → Type 0
  PutsIn Closed m u outcome = (outcome ≡ Err fault.NotOpen) × SameMember m u
  PutsIn Open m u outcome = PutsAlone m u outcome
  PutsIn (Holds most) m u outcome = PutsHeld most m.port.hand.span m u outcome

-- an end puts a word
abbrev pub EndPuts : Word64 → Member → Member → Outcome → Type 0
EndPuts word m u outcome = PutsIn (place_ring m.ends.put.at) word m.ends.put.state m u outcome

-- takes of one word, at a ring, to an array of one place, which is `before` before the call and `after` after it
module _ (ring : ℕ) (before after : List Word64) where
  abbrev pub NotTaken : Member → Member → Type 0
  NotTaken m u = SameMember m u × (after ≡ before)

  abbrev pub TakesAlone : Member → Member → Outcome → Type 0
  TakesAlone m u outcome = OnIdle m.port.hand.span outcome (NotTaken m u) (KeepsRings m u
      × TakesOne m.port.fabric.value ring (member_view m) before after (member_view u) outcome)

  -- the next word of a held side of the ring. With its last word the side is given up
  abbrev pub TakesNextWord : OpenSpan → Member → Member → Outcome → Type 0
  TakesNextWord (open_span.Held r) m u outcome =
      ((r.ring ≢ ring) × IsBusy outcome (NotTaken m u))
      ⊎ (((r.ring ≡ ring) × (1 < r.range.count) × AdvancesTake before after m u outcome)
      ⊎ ((r.ring ≡ ring) × (r.range.count ≤ 1) × EndsHeld before after m u outcome))
  TakesNextWord open_span.Idle m u outcome = IsBusy outcome (NotTaken m u)
  TakesNextWord (open_span.Put r) m u outcome = IsBusy outcome (NotTaken m u)
  TakesNextWord (open_span.Take r) m u outcome = IsBusy outcome (NotTaken m u)

  -- on a held side: a hand without a span holds it first, with at most so many words
  abbrev pub TakesHeld : ℕ → OpenSpan → Member → Member → Outcome → Type 0
  TakesHeld most open_span.Idle m u outcome =
      ((why : Fault) × (outcome ≡ Err why) × HoldsTake ring Burst most m u (Err why) × (after ≡ before))
      ⊎ ((mid : Member) × (k : ℕ) × HoldsTake ring Burst most m mid (Ok k) × TakesNextWord mid.port.hand.span mid u outcome)
  TakesHeld most (open_span.Held r) m u outcome = TakesNextWord (open_span.Held r) m u outcome
  TakesHeld most (open_span.Put r) m u outcome = IsBusy outcome (NotTaken m u)
  TakesHeld most (open_span.Take r) m u outcome = IsBusy outcome (NotTaken m u)

  abbrev pub TakesIn : EndState → Member → Member → Outcome → Type 0
  TakesIn Closed m u outcome = (outcome ≡ Err fault.NotOpen) × NotTaken m u
  TakesIn Open m u outcome = TakesAlone m u outcome
  TakesIn (Holds most) m u outcome = TakesHeld most m.port.hand.span m u outcome

-- an end takes a word
abbrev pub EndTakes : List Word64 → List Word64 → Member → Member → Outcome → Type 0
EndTakes before after m u outcome = TakesIn (place_ring m.ends.take.at) before after m.ends.take.state m u outcome

-- nothing of a hand is changed but one of its ends, which is this afterwards
pub record ChangesEnd (side : Side) (e : End) (m u : Member) : Type 0 where
  pub fabric : u.port.fabric ≡ m.port.fabric
  pub hand : u.port.hand ≡ m.port.hand
  pub shown : u.shown.value ≡ m.shown.value
  pub left : u.left ≡ m.left
  pub ends : u.ends ≡ with_end m.ends side e

-- a hand opens an end: one on each side, of any ring
abbrev pub EndOpens : Side → ℕ → Member → Member → Outcome → Type 0
EndOpens side ring m u outcome =
    ((length (rings_of m.port.fabric.value) ≤ ring) × (outcome ≡ Err fault.Ring) × SameMember m u)
    ⊎ (((ring < length (rings_of m.port.fabric.value)) × ((end_on m.ends side).state ≢ Closed) × IsBusy outcome (SameMember m u))
    ⊎ (((end_on m.ends side).state ≡ Closed) × (outcome ≡ Ok 0)
    × ((e : End) × (place_ring e.at ≡ ring) × (e.state ≡ Open) × ChangesEnd side e m u)))

-- an end holds its side from its next word on, with at most so many positions at a time
abbrev pub EndHolds : Side → ℕ → Member → Member → Outcome → Type 0
EndHolds side most m u outcome =
    (((end_on m.ends side).state ≡ Closed) × (outcome ≡ Err fault.NotOpen) × SameMember m u)
    ⊎ (((end_on m.ends side).state ≢ Closed)
    × (((place_mode (end_on m.ends side).at side ≡ Multi) × (outcome ≡ Err fault.Mode) × SameMember m u)
    ⊎ ((place_mode (end_on m.ends side).at side ≡ Hts)
    × ((((most ≡ 0) ⊎ (4095 < most)) × (outcome ≡ Err fault.Count) × SameMember m u)
    ⊎ ((0 < most) × (most ≤ 4095) × (outcome ≡ Ok 0) × ChangesEnd side (record (end_on m.ends side) { state = Holds most }) m u)))))

-- the span that is open on that side of that ring, by whichever call, is settled with no word; no other is touched
abbrev pub GivesUpPut : EndState → ℕ → OpenSpan → Member → Member → Outcome → Type 0
GivesUpPut (Holds most) ring (open_span.Put r) m u outcome =
    ((r.ring ≡ ring) × EndsPut [] m u outcome) ⊎ ((r.ring ≢ ring) × (outcome ≡ Ok 0) × SameMember m u)
GivesUpPut (Holds most) ring open_span.Idle m u outcome = (outcome ≡ Ok 0) × SameMember m u
GivesUpPut (Holds most) ring (open_span.Take r) m u outcome = (outcome ≡ Ok 0) × SameMember m u
GivesUpPut (Holds most) ring (open_span.Held r) m u outcome = (outcome ≡ Ok 0) × SameMember m u
GivesUpPut Open ring span m u outcome = (outcome ≡ Ok 0) × SameMember m u
GivesUpPut Closed ring span m u outcome = (outcome ≡ Ok 0) × SameMember m u

abbrev pub GivesUpTake : EndState → ℕ → OpenSpan → Member → Member → Outcome → Type 0
GivesUpTake (Holds most) ring (open_span.Held r) m u outcome =
    ((r.ring ≡ ring) × EndsHeld [] [] m u outcome) ⊎ ((r.ring ≢ ring) × (outcome ≡ Ok 0) × SameMember m u)
GivesUpTake (Holds most) ring open_span.Idle m u outcome = (outcome ≡ Ok 0) × SameMember m u
GivesUpTake (Holds most) ring (open_span.Take r) m u outcome = (outcome ≡ Ok 0) × SameMember m u
GivesUpTake (Holds most) ring (open_span.Put r) m u outcome = (outcome ≡ Ok 0) × SameMember m u
GivesUpTake Open ring span m u outcome = (outcome ≡ Ok 0) × SameMember m u
GivesUpTake Closed ring span m u outcome = (outcome ≡ Ok 0) × SameMember m u

abbrev pub GivesUp : Side → Member → Member → Outcome → Type 0
GivesUp Put m u outcome = GivesUpPut m.ends.put.state (place_ring m.ends.put.at) m.port.hand.span m u outcome
GivesUp Take m u outcome = GivesUpTake m.ends.take.state (place_ring m.ends.take.at) m.port.hand.span m u outcome

abbrev pub state_after : Bool → EndState
state_after true = Closed
state_after false = Open

-- an end gives its side up, and is closed, or stays open
abbrev pub EndReleases : Side → Bool → Member → Member → Outcome → Type 0
EndReleases side closes m u outcome =
    (((end_on m.ends side).state ≡ Closed) × (outcome ≡ Err fault.NotOpen) × SameMember m u)
    ⊎ (((end_on m.ends side).state ≢ Closed)
    × (((why : Fault) × (outcome ≡ Err why) × GivesUp side m u (Err why))
    ⊎ ((mid : Member) × (k : ℕ) × (outcome ≡ Ok 0) × GivesUp side m mid (Ok k)
    × ChangesEnd side (record (end_on m.ends side) { state = state_after closes }) mid u)))
