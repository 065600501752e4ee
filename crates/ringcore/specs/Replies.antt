-- The reply to a member, by the numbers of a ring and the entries
use Rattle.std.specs.Prelude.{ℕ, ◌≡◌, ◌+◌, ◌^◌, ◌<◌, ◌==◌, not, if◌then◌else◌, List, [], take, length}
use Rattle.std.specs.Prelude.{is_some, Option, Some, None}
use Rattle.geom.specs.declared.plan.How.{How}
use Rattle.geom.specs.declared.plan.Side.{Side}
use Rattle.geom.specs.declared.plan.Side.TheVariants.{Put, Take}
use Rattle.geom.specs.declared.plan.RingPlan.{RingPlan}
use Rattle.ringcore_laws.specs.declared.contents.Item.{Item}
use Rattle.ringcore_laws.specs.declared.protocol.Reply.{Reply}
use Rattle.ringcore_laws.specs.declared.protocol.Reply.TheVariants.{NoSpan, BadCount, NotYours, NotYet, Done}
use Rattle.ringcore_laws.specs.declared.protocol.Span.{Span}
use Rattle.ringcore_laws.specs.declared.protocol.Observed.{Observed}
use Rattle.ringcore_laws.specs.Party.{is_on}
use Rattle.ringcore_laws.specs.RingSide.{RingSide}
use Rattle.ringcore_laws.specs.History.{is_bad_settle, reserve_seen, seen_on}
use Rattle.ringcore_laws.specs.declared.protocol.Place.{Place}
use Rattle.ringcore.specs.declared.member.Member.{Member}
use Rattle.ringcore.specs.Entries.{may_put_all}

-- a tail that was seen is small enough for the room to be computed
abbrev pub TailFits : RingPlan → Option Observed → Type 0
TailFits plan observed =
    (s : Observed) (t : ℕ) → observed ≡ Some s → s.tail_seen ≡ Some t → plan.geometry.capacity + t < 2 ^ 64

-- the reply to a member's Reserve, by the side
abbrev pub reserve_answer : RingPlan → ℕ → Side → How → ℕ → RingSide Item → Member → Reply
reserve_answer plan ring side how count l m =
    if is_some m.span then NoSpan else reserve_seen plan side how count l m.count
    (seen_on ring side m.observed)

-- the reply to a settle, by the tail of the side
abbrev pub put_answer : RingPlan → ℕ → ℕ → ℕ → List Place → List Item → Option Span → Reply
put_answer plan number tail i places items None = NoSpan
put_answer plan number tail i places items (Some s) =
    if not (is_on s.ring s.side number Put) then NoSpan
    else if is_bad_settle plan.put (length items) s.count then BadCount
    else if not (may_put_all plan.free i places items) then NotYours
    else if not (tail == s.start) then NotYet tail
    else Done (length items) []

abbrev pub take_answer : RingPlan → ℕ → ℕ → List Item → ℕ → Option Span → Reply
take_answer plan number tail queued count None = NoSpan
take_answer plan number tail queued count (Some s) =
    if not (is_on s.ring s.side number Take) then NoSpan
    else if is_bad_settle plan.take count s.count then BadCount
    else if not (tail == s.start) then NotYet tail
    else Done count (take count queued)
