-- The history of a run: what each actor has after the events so far, and the reply to each next step (DPDK Programmer's
-- Guide, "Ring Library", "Anatomy of a Ring Buffer": a local copy of the own head and of the other tail, a
-- compare-and-exchange of the head, and the tail moved once all earlier reservations are; head/tail sync keeps both in
-- one word and takes one reservation at a time)
use Rattle.std.specs.Prelude.{ℕ, Bool, false, not, ◌&&◌, ◌||◌, nat_lt, ◌==◌, ◌+◌, ◌-◌, ◌*◌, ◌/◌, if◌then◌else◌, is_some}
use Rattle.std.specs.Prelude.{◌≡◌, slice_index, List, [], ◌∷◌, map, length, take, drop, slice_get, slice_set, Option}
use Rattle.std.specs.Prelude.{Some, None}
use Rattle.std.specs.List.{flat_map, filter, list_all, list_any, range_with_len}
use Rattle.geom.specs.declared.plan.Mode.{Mode}
use Rattle.geom.specs.declared.plan.Mode.TheVariants.{Multi, Hts}
use Rattle.geom.specs.declared.plan.Side.{Side}
use Rattle.geom.specs.declared.plan.Side.TheVariants.{Put, Take}
use Rattle.geom.specs.declared.plan.How.{How}
use Rattle.geom.specs.declared.plan.RingPlan.{RingPlan}
use Rattle.geom.specs.Extent.{Extent, range_of}
use Rattle.geom.specs.Plan.{mode_of, granted}
use Rattle.ringcore_laws.specs.declared.protocol.Span.{Span}
use Rattle.ringcore_laws.specs.declared.protocol.Observed.{Observed}
use Rattle.ringcore_laws.specs.declared.contents.Item.{Item}
use Rattle.ringcore_laws.specs.declared.contents.Item.TheVariants.{Word, Buffers}
use Rattle.ringcore_laws.specs.declared.protocol.Step.{Step}
use Rattle.ringcore_laws.specs.declared.protocol.Step.TheVariants.{Look, Room, Reserve, SettlePut, SettleTake, Stash}
use Rattle.ringcore_laws.specs.declared.protocol.Step.TheVariants.{Unstash}
use Rattle.ringcore_laws.specs.declared.protocol.Reply.{Reply}
use Rattle.ringcore_laws.specs.declared.protocol.Reply.TheVariants.{Seen, Granted, Done, Busy, Contended, NoRoom}
use Rattle.ringcore_laws.specs.declared.protocol.Reply.TheVariants.{NotYet, Worn, NoSpan, BadCount, NotYours}
use Rattle.ringcore_laws.specs.declared.party.Party.{Party}
use Rattle.ringcore_laws.specs.Party.{is_on, with_open, with_settled, newcomer}
use Rattle.ringcore_laws.specs.RingSide.{RingSide, side_of, listed}
use Rattle.ringcore_laws.specs.Sound.{Sound, occurrences, holds}
use Rattle.ringcore_laws.specs.FreeRings.{buffers_had}

-- the buffers of an item
abbrev pub tags : Item → List ℕ
tags (Word n) = []
tags (Buffers numbers) = numbers

-- the result for an actor of the events so far: its spans and buffers, its look, and the buffers that it marked as
-- cached
pub record Actor : Type 0 where
  pub party : Party Item
  pub observed : Option Observed
  pub cached : List ℕ

-- 1. What an event changes in the actor that steps

abbrev pub with_tail : Option Observed → ℕ → Option Observed
with_tail None tail = None
with_tail (Some s) tail = Some record { ring = s.ring; side = s.side; looked_at = s.looked_at; tail_seen = Some tail }

-- A Look that is answered Busy leaves no look
abbrev pub after_look : Actor → ℕ → Side → Reply → Actor
after_look a ring side (Seen word) =
    let found : Observed = record { ring = ring; side = side; looked_at = word; tail_seen = None } in
    record { party = a.party; observed = Some found; cached = a.cached }
after_look a ring side (Busy word) = record { party = a.party; observed = None; cached = a.cached }
after_look a ring side _ = a

abbrev pub after_room : Actor → Reply → Actor
after_room a (Seen tail) = record { party = a.party; observed = with_tail a.observed tail; cached = a.cached }
after_room a _ = a

-- Every Reserve ends the look, except one that is answered NoSpan
abbrev pub after_reserve : Actor → ℕ → Side → Reply → Actor
after_reserve a ring side NoSpan = a
after_reserve a ring side (Granted start count left) =
    let span : Span = record { ring = ring; side = side; start = start; count = count } in
    record { party = with_open a.party span; observed = None; cached = a.cached }
after_reserve a ring side _ = record { party = a.party; observed = None; cached = a.cached }

-- A settle of the open span. In a right history a Settle that is answered Done is of the span's ring and side, and its
-- count is the number of the items, so neither is tested here: the reply's tests compare them
abbrev pub settled_span : Party Item → Option Span → List Item → Party Item
settled_span party None items = party
settled_span party (Some span) items = with_settled party span items

abbrev pub after_settle_put : Actor → List Item → Reply → Actor
after_settle_put a items (Done count none) =
    record { party = settled_span a.party a.party.span items; observed = a.observed; cached = a.cached }
after_settle_put a items _ = a

abbrev pub after_settle_take : Actor → Reply → Actor
after_settle_take a (Done count items) =
    record { party = settled_span a.party a.party.span items; observed = a.observed; cached = a.cached }
after_settle_take a _ = a

abbrev pub after_stash : Actor → ℕ → Reply → Actor
after_stash a b (Seen _) = record { party = a.party; observed = a.observed; cached = b ∷ a.cached }
after_stash a b _ = a

abbrev pub after_unstash : Actor → ℕ → Reply → Actor
after_unstash a b (Seen _) =
    record { party = a.party; observed = a.observed; cached = filter (λ c. not (c == b)) a.cached }
after_unstash a b _ = a

-- an actor after this reply to its step
abbrev pub after_step : Actor → Step → Reply → Actor
after_step a (Look ring side) reply = after_look a ring side reply
after_step a (Room ring side) reply = after_room a reply
after_step a (Reserve ring side how count) reply = after_reserve a ring side reply
after_step a (SettlePut ring items) reply = after_settle_put a items reply
after_step a (SettleTake ring count) reply = after_settle_take a reply
after_step a (Stash b) reply = after_stash a b reply
after_step a (Unstash b) reply = after_unstash a b reply

-- 2. The reply to a step

-- The word of a side. A multi side shows how far it is reserved, an HTS side how far it is settled and how many
-- positions are reserved from there on
abbrev pub own_word : {I : Type 0} → Extent → Mode → RingSide I → ℕ
own_word e Multi l = l.reach
own_word e Hts l = l.len * range_of e + l.open_count

-- the position in a word that was seen, with nothing reserved
abbrev pub position_of : Extent → Mode → ℕ → ℕ
position_of e Multi word = word
position_of e Hts word = word / range_of e

abbrev pub is_busy : {I : Type 0} → Mode → RingSide I → Bool
is_busy Multi l = false
is_busy Hts l = nat_lt 0 l.open_count

abbrev pub look_reply : Extent → Mode → RingSide Item → Actor → Reply
look_reply e mode l a =
    if is_some a.party.span then NoSpan
    else if is_busy mode l then Busy (own_word e mode l)
    else Seen (own_word e mode l)

abbrev pub sees : ℕ → Side → Option Observed → Bool
sees ring side None = false
sees ring side (Some s) = is_on s.ring s.side ring side

abbrev pub room_reply : ℕ → Side → RingSide Item → Actor → Reply
room_reply ring side other a =
    if is_some a.party.span then NoSpan
    else if sees ring side a.observed then Seen other.len
    else NoSpan

-- the room of an actor, by what it has seen
abbrev pub room_by_look : Side → ℕ → ℕ → ℕ → ℕ
room_by_look Put capacity position tail = capacity + tail - position
room_by_look Take capacity position tail = tail - position

-- how many buffers an actor has, held or cached
abbrev pub buffers_of_actor : ℕ → Actor → ℕ
buffers_of_actor pool a = buffers_had tags pool a.party

abbrev pub is_bad_reserve : Side → Bool → ℕ → ℕ → Bool
is_bad_reserve Put free count had = (count == 0) || (free && nat_lt had count)
is_bad_reserve Take free count had = count == 0

-- what an actor has seen on a side: the word looked at, and the tail of the other side
abbrev pub both_seen : ℕ → Option ℕ → Option (ℕ × ℕ)
both_seen looked_at None = None
both_seen looked_at (Some tail) = Some (looked_at, tail)

abbrev pub seen_on : ℕ → Side → Option Observed → Option (ℕ × ℕ)
seen_on ring side None = None
seen_on ring side (Some s) = if is_on s.ring s.side ring side then both_seen s.looked_at s.tail_seen else None

-- a Reserve by what was seen, in the order of its tests
abbrev pub reserve_seen : RingPlan → Side → How → ℕ → RingSide Item → ℕ → Option (ℕ × ℕ) → Reply
reserve_seen plan side how count l buffers None = NoSpan
reserve_seen plan side how count l buffers (Some seen) =
    let own = own_word plan.geometry (mode_of plan side) l in
    let position = position_of plan.geometry (mode_of plan side) seen.0 in
    let room = room_by_look side plan.geometry.capacity position seen.1 in
    let m = granted how count room in
    if is_bad_reserve side plan.free count buffers then BadCount
    else if m == 0 then NoRoom room
    else if nat_lt plan.geometry.last (position + m) then Worn
    else if own == seen.0 then Granted position m (room - m)
    else Contended own

abbrev pub reserve_reply : RingPlan → ℕ → ℕ → Side → How → ℕ → RingSide Item → Actor → Reply
reserve_reply plan pool ring side how count l a =
    if is_some a.party.span then NoSpan
    else reserve_seen plan side how count l (buffers_of_actor pool a) (seen_on ring side a.observed)

abbrev pub is_bad_settle : Mode → ℕ → ℕ → Bool
is_bad_settle Multi count reserved = not (count == reserved)
is_bad_settle Hts count reserved = nat_lt reserved count

-- whether an open span is of this side, and starts below a position
abbrev pub starts_below : ℕ → Side → ℕ → Option Span → Bool
starts_below ring side position None = false
starts_below ring side position (Some s) = is_on s.ring s.side ring side && nat_lt s.start position

-- whether some party has such an open span
abbrev pub earlier_open : {I : Type 0} → ℕ → Side → ℕ → List (Party I) → Bool
earlier_open {I} ring side position parties =
    list_any (λ (party : Party I). starts_below ring side position party.span) parties

abbrev pub is_cached : Actor → ℕ → Bool
is_cached a b = list_any (λ c. c == b) a.cached

-- whether a buffer is an actor's, and not marked as cached
abbrev pub is_held : Actor → ℕ → Bool
is_held a b = (holds tags b a.party == 1) && not (is_cached a b)

-- whether an actor may put these items: it holds their buffers, and none is listed twice
abbrev pub may_put : Bool → Actor → List Item → Bool
may_put free a items =
    let numbers = flat_map tags items in
    list_all (is_held a) numbers && list_all (λ b. occurrences b numbers == 1) numbers
    && (not free || list_all (λ x. length (tags x) == 1) items)

abbrev pub put_reply : RingPlan → ℕ → List (Party Item) → Actor → List Item → Option Span → Reply
put_reply plan ring parties a items None = NoSpan
put_reply plan ring parties a items (Some s) =
    if not (is_on s.ring s.side ring Put) then NoSpan
    else if is_bad_settle plan.put (length items) s.count then BadCount
    else if not (may_put plan.free a items) then NotYours
    else if earlier_open ring Put s.start parties then NotYet (side_of parties ring Put).len
    else Done (length items) []

abbrev pub take_reply : RingPlan → ℕ → List (Party Item) → ℕ → Option Span → Reply
take_reply plan ring parties count None = NoSpan
take_reply plan ring parties count (Some s) =
    if not (is_on s.ring s.side ring Take) then NoSpan
    else if is_bad_settle plan.take count s.count then BadCount
    else if earlier_open ring Take s.start parties then NotYet (side_of parties ring Take).len
    else Done count (take count (drop s.start (listed (side_of parties ring Put))))

abbrev pub other_side : Side → Side
other_side Put = Take
other_side Take = Put

abbrev pub on_ring : Option RingPlan → (RingPlan → Reply) → Reply
on_ring None reply = NoSpan
on_ring (Some plan) reply = reply plan

-- the reply to a step of this actor
abbrev pub actor_reply : List RingPlan → ℕ → List (Party Item) → Actor → Step → Reply
actor_reply plans pool parties a (Look ring side) =
    on_ring (slice_get plans ring) (λ plan. look_reply plan.geometry (mode_of plan side) (side_of parties ring side) a)
actor_reply plans pool parties a (Room ring side) =
    on_ring (slice_get plans ring) (λ plan. room_reply ring side (side_of parties ring (other_side side)) a)
actor_reply plans pool parties a (Reserve ring side how count) =
    on_ring (slice_get plans ring)
    (λ plan. reserve_reply plan pool ring side how count (side_of parties ring side) a)
actor_reply plans pool parties a (SettlePut ring items) =
    on_ring (slice_get plans ring) (λ plan. put_reply plan ring parties a items a.party.span)
actor_reply plans pool parties a (SettleTake ring count) =
    on_ring (slice_get plans ring) (λ plan. take_reply plan ring parties count a.party.span)
actor_reply plans pool parties a (Stash b) = if is_held a b then Seen b else NotYours
actor_reply plans pool parties a (Unstash b) = if (holds tags b a.party == 1) && is_cached a b then Seen b else NotYours

-- 3. Histories

pub record Event : Type 0 where
  pub actor : ℕ
  pub step : Step
  pub reply : Reply

abbrev pub parties_of : List Actor → List (Party Item)
parties_of actors = map (λ a. a.party) actors

abbrev pub reply_to_one : List RingPlan → ℕ → List (Party Item) → Option Actor → Step → Reply
reply_to_one plans pool parties None step = NoSpan
reply_to_one plans pool parties (Some a) step = actor_reply plans pool parties a step

-- the reply to the next step
unfoldable pub reply_to : List RingPlan → ℕ → List Actor → ℕ → Step → Reply
reply_to plans pool actors i step = reply_to_one plans pool (parties_of actors) (slice_get actors i) step

abbrev pub one_stepped : List Actor → ℕ → Option Actor → Step → Reply → List Actor
one_stepped actors i None step reply = actors
one_stepped actors i (Some a) step reply = slice_set actors i (after_step a step reply)

-- the actors after one more event
unfoldable pub after : List Actor → Event → List Actor
after actors e = one_stepped actors e.actor (slice_get actors e.actor) e.step e.reply

-- the actors after these events, the first one first
abbrev pub after_all : List Actor → List Event → List Actor
after_all actors [] = actors
after_all actors (e ∷ events) = after_all (after actors e) events

-- each reply is the one to its step
abbrev pub IsRun : List RingPlan → ℕ → List Actor → List Event → Type 0
IsRun plans pool actors [] = Unit {0}
IsRun plans pool actors (e ∷ events) =
    (e.reply ≡ reply_to plans pool actors e.actor e.step) × IsRun plans pool (after actors e) events

-- the actors are sound now, and after each of these events
abbrev pub StaysSound : List RingPlan → ℕ → List Actor → List Event → Type 0
StaysSound plans pool actors [] = Sound tags plans pool (parties_of actors)
StaysSound plans pool actors (e ∷ events) =
    Sound tags plans pool (parties_of actors) × StaysSound plans pool (after actors e) events

-- the buffers that an actor is given: those whose gift names it
abbrev pub buffers_given : List ℕ → ℕ → List ℕ
buffers_given gifts i = filter (λ b. slice_index gifts b == i) (range_with_len 0 (length gifts))

-- this many actors before any event, with buffer b given to the actor at index b of the gifts
abbrev pub opening : ℕ → List ℕ → List Actor
opening actors gifts =
    map (λ i. record { party = newcomer (buffers_given gifts i); observed = None; cached = [] })
    (range_with_len 0 actors)
