-- What calls on a hand of C's do to it
use Rattle.std.specs.Prelude.{◌≡◌, ℕ, ◌<◌, ◌≤◌, ◌⊎◌, Bool, true, false, length, IsSome, Err}
use Rattle.geom.specs.declared.plan.Mode.TheVariants.{Multi}
use Rattle.geom.specs.declared.plan.Side.{Side}
use Rattle.geom.specs.declared.plan.Side.TheVariants.{Put, Take}
use Rattle.geom.specs.Plan.{mode_of}
use Rattle.ringcore_laws.specs.declared.protocol.Span.{Span}
use Rattle.fabric.specs.Held.{span_at}
use Rattle.fabric.specs.InPlace.{placed_view}
use Rattle.fabric_laws.specs.declared.view.View.{View}
use Rattle.fabric.specs.Hands.{OnRing, rings_of}
use Rattle.fabric.specs.declared.hand.in_place.OpenSpan.{OpenSpan}
use Rattle.fabric.specs.declared.hand.in_place.OpenSpan.TheVariants as open_span
use Rattle.fabric.specs.declared.hand.in_place.OpenSpan.TheVariants.{Idle}
use Rattle.ringapi.specs.Spares.{IsSameBut, IsUnused}
use Rattle.capi.specs.Codes.{Outcome}
use Rattle.capi.specs.Spare.{RefusesSpare}
use Rattle.capi.specs.declared.rings.fault.Fault.{Fault}
use Rattle.capi.specs.declared.rings.fault.Fault.TheVariants as fault
use Rattle.capi.specs.declared.rings.member.Member.{Member}
use Rattle.capi.specs.declared.rings.word64.Word64.{Word64}

-- the member is as it was
pub record SameMember (m u : Member) : Type 0 where
  pub fabric : u.port.fabric ≡ m.port.fabric
  pub hand : u.port.hand ≡ m.port.hand
  pub shown : u.shown.value ≡ m.shown.value
  pub left : u.left ≡ m.left
  pub ends : u.ends ≡ m.ends

-- it is on the same rings, with the same ends
abbrev pub KeepsRings : Member → Member → Type 0
KeepsRings m u = (u.port.fabric ≡ m.port.fabric) × (u.ends ≡ m.ends)

abbrev pub member_view : Member → View Word64
member_view m = placed_view m.port.hand

-- a call of a hand without an open span; with one it is refused, and `same` says what is as it was
abbrev pub OnIdle : OpenSpan → Outcome → Type 0 → Type 0 → Type 0
OnIdle Idle outcome same does = does
OnIdle (open_span.Put r) outcome same does = (outcome ≡ Err fault.Open) × same
OnIdle (open_span.Take r) outcome same does = (outcome ≡ Err fault.Open) × same
OnIdle (open_span.Held r) outcome same does = (outcome ≡ Err fault.Open) × same

-- a call on a ring: there is none of this number, or a span is open, or it does what it says
abbrev pub OnRings : ℕ → Member → Outcome → Type 0 → (View Word64 → Type 0) → Type 0
OnRings ring m outcome same does =
    ((length (rings_of m.port.fabric.value) ≤ ring) × (outcome ≡ Err fault.Ring) × same)
    ⊎ ((ring < length (rings_of m.port.fabric.value)) × OnIdle m.port.hand.span outcome same (does (member_view m)))

-- a call of a hand with an open put, or an open take
abbrev pub OnPut : OpenSpan → Outcome → Type 0 → (Span → Type 0) → Type 0
OnPut Idle outcome same does = (outcome ≡ Err fault.NotOpen) × same
OnPut (open_span.Put r) outcome same does = does (span_at Put r)
OnPut (open_span.Take r) outcome same does = (outcome ≡ Err fault.NotOpen) × same
OnPut (open_span.Held r) outcome same does = (outcome ≡ Err fault.NotOpen) × same

abbrev pub OnTake : OpenSpan → Outcome → Type 0 → (Span → Type 0) → Type 0
OnTake Idle outcome same does = (outcome ≡ Err fault.NotOpen) × same
OnTake (open_span.Put r) outcome same does = (outcome ≡ Err fault.NotOpen) × same
OnTake (open_span.Take r) outcome same does = does (span_at Take r)
OnTake (open_span.Held r) outcome same does = (outcome ≡ Err fault.NotOpen) × same

abbrev pub OnPutting : Member → Outcome → Type 0 → (Span → View Word64 → Type 0) → Type 0
OnPutting m outcome same does = OnPut m.port.hand.span outcome same (λ span. does span (member_view m))

abbrev pub OnTaking : Member → Outcome → Type 0 → (Span → View Word64 → Type 0) → Type 0
OnTaking m outcome same does = OnTake m.port.hand.span outcome same (λ span. does span (member_view m))

-- a call on a head/tail-sync side of a ring
abbrev pub OnHts : ℕ → Side → Member → Outcome → Type 0 → (View Word64 → Type 0) → Type 0
OnHts ring side m outcome same does =
    ((length (rings_of m.port.fabric.value) ≤ ring) × (outcome ≡ Err fault.Ring) × same)
    ⊎ (((ring < length (rings_of m.port.fabric.value)) × (outcome ≡ Err fault.Mode) × same
    × OnRing m.port.fabric.value ring (λ plan. mode_of plan side ≡ Multi))
    ⊎ ((ring < length (rings_of m.port.fabric.value)) × OnIdle m.port.hand.span outcome same (does (member_view m))))

-- what a member has of a set of rings is as it was, but for half of its parts, which may have become spare hands
pub record LikeMember (m u : Member) : Type 0 where
  pub fabric : u.port.fabric ≡ m.port.fabric
  pub view : IsSameBut (member_view m) (member_view u)
  pub shown : u.shown.value ≡ m.shown.value
  pub left : u.left ≡ m.left
  pub ends : u.ends ≡ m.ends

-- how many words are queued, or how many more there is room for
abbrev pub room_side : Bool → Side
room_side true = Take
room_side false = Put

-- the member is as it was, but for its loads, which are counted
pub record SameButLoads (m u : Member) : Type 0 where
  pub fabric : u.port.fabric ≡ m.port.fabric
  pub span : u.port.hand.span ≡ m.port.hand.span
  pub shown : u.shown.value ≡ m.shown.value
  pub left : u.left ≡ m.left
  pub ends : u.ends ≡ m.ends

-- another thread has a hand now: the first keeps what it has done, the second has done nothing
pub record Splits (m u other : Member) : Type 0 where
  pub first : LikeMember m u
  pub same : other.port.fabric.value ≡ m.port.fabric.value
  pub second : IsUnused (member_view other)

-- why a hand isn't split
abbrev pub RefusesSplit : Member → Fault → Type 0
RefusesSplit m why =
    ((why ≡ fault.Open) × (IsSome (member_view m).party.span)) ⊎ RefusesSpare why
