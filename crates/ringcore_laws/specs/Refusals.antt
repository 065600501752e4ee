-- When a refusal is true, by the events before it
use Rattle.std.specs.Prelude.{ℕ, Bool, true, false, ◌&&◌, ◌==◌, ◌+◌, ◌-◌, ◌<◌, ◌≡◌, ◌≢◌, if◌then◌else◌, List, [], ◌∷◌}
use Rattle.std.specs.Prelude.{slice_get, Option, Some, None}
use Rattle.geom.specs.declared.plan.How.{How}
use Rattle.geom.specs.declared.plan.How.TheVariants.{Bulk, Burst}
use Rattle.geom.specs.declared.plan.Side.{Side}
use Rattle.geom.specs.declared.plan.Side.TheVariants.{Put, Take}
use Rattle.geom.specs.declared.plan.RingPlan.{RingPlan}
use Rattle.geom.specs.Plan.{mode_of}
use Rattle.ringcore_laws.specs.declared.contents.Item.{Item}
use Rattle.ringcore_laws.specs.declared.protocol.Observed.{Observed}
use Rattle.ringcore_laws.specs.declared.protocol.Span.{Span}
use Rattle.ringcore_laws.specs.declared.protocol.Step.{Step}
use Rattle.ringcore_laws.specs.declared.protocol.Step.TheVariants.{Reserve, Room}
use Rattle.ringcore_laws.specs.declared.protocol.Reply.{Reply}
use Rattle.ringcore_laws.specs.declared.protocol.Reply.TheVariants.{NoRoom, Seen}
use Rattle.ringcore_laws.specs.declared.party.Party.{Party}
use Rattle.ringcore_laws.specs.Party.{is_on}
use Rattle.ringcore_laws.specs.RingSide.{side_of}
use Rattle.ringcore_laws.specs.History.{Actor, Event, after, own_word, parties_of}

-- 1. The actor's last question for room

abbrev pub is_room_answer : Step → Reply → Bool
is_room_answer (Room ring side) (Seen tail) = true
is_room_answer step reply = false

-- whether an event is a question for room of this actor that was answered Seen
abbrev pub is_room_of : ℕ → Event → Bool
is_room_of i e = (e.actor == i) && is_room_answer e.step e.reply

-- the actors right before the last such event
abbrev pub at_last_room : List Actor → Option (List Actor) → ℕ → List Event → Option (List Actor)
at_last_room actors found i [] = found
at_last_room actors found i (e ∷ events) =
    at_last_room (after actors e) (if is_room_of i e then Some actors else found) i events

-- 2. What makes a refusal true

-- the room that there is on a side
abbrev pub room_on : RingPlan → List (Party Item) → ℕ → Side → ℕ
room_on plan parties ring Put =
    plan.geometry.capacity + (side_of parties ring Take).len - (side_of parties ring Put).reach
room_on plan parties ring Take = (side_of parties ring Put).len - (side_of parties ring Take).reach

abbrev pub IsTooLittle : How → ℕ → ℕ → Type 0
IsTooLittle Bulk count room = room < count
IsTooLittle Burst count room = room ≡ 0

-- NoRoom: at the actor's last question for room there was too little
abbrev pub HadNoRoom : RingPlan → List Actor → List Event → ℕ → ℕ → Side → How → ℕ → Type 0
HadNoRoom plan actors events i ring side how count =
    (past : List Actor) × (at_last_room actors None i events ≡ Some past)
    × IsTooLittle how count (room_on plan (parties_of past) ring side)

-- Contended: the own word isn't the one the actor looked at
abbrev pub HasMoved : RingPlan → List Actor → ℕ → ℕ → Side → ℕ → Type 0
HasMoved plan actors i ring side word =
    (word ≡ own_word plan.geometry (mode_of plan side) (side_of (parties_of actors) ring side))
    × ((a : Actor) (s : Observed) → slice_get actors i ≡ Some a → a.observed ≡ Some s → s.looked_at ≢ word)

-- Busy: another actor's span of the side is open
abbrev pub IsTaken : List Actor → ℕ → ℕ → Side → Type 0
IsTaken actors i ring side =
    (j : ℕ) × (other : Actor) × (span : Span) × (j ≢ i) × (slice_get actors j ≡ Some other)
    × (other.party.span ≡ Some span)
    × (is_on span.ring span.side ring side ≡ true)

-- NotYet: a span of the own side with a lower start is open
abbrev pub HasEarlier : List Actor → ℕ → Type 0
HasEarlier actors i =
    (a : Actor) × (own : Span) × (j : ℕ) × (other : Actor) × (span : Span)
    × (slice_get actors i ≡ Some a) × (a.party.span ≡ Some own) × (slice_get actors j ≡ Some other)
    × (other.party.span ≡ Some span)
    × (is_on span.ring span.side own.ring own.side ≡ true) × (span.start < own.start)

-- no put into a free ring was answered NoRoom
abbrev pub PutsFindRoom : List RingPlan → List Event → Type 0
PutsFindRoom plans [] = Unit {0}
PutsFindRoom plans (e ∷ events) =
    ((ring : ℕ) (how : How) (count room : ℕ) (plan : RingPlan) → e.step ≡ Reserve ring Put how count
    → e.reply ≡ NoRoom room
    → slice_get plans ring ≡ Some plan → plan.free ≡ false)
    × PutsFindRoom plans events
