-- What runs give: each reply of a history is the one to its step, every list of steps is sound, and a span is granted to an idle actor
use Rattle.std.proofs.Common.{ℕ, ◌≡◌, List, [], ◌∷◌, length, refl, true, false, Bool, ap, sym, ◌∙◌}
use Rattle.std.specs.Prelude.{slice_get, Option, Some, None, is_some, not, take, drop, if◌then◌else◌, ◌==◌, ◌&&◌}
use Rattle.geom.specs.declared.plan.Side.TheVariants.{Put, Take}
use Rattle.geom.specs.declared.plan.RingPlan.{RingPlan}
use Rattle.geom.specs.Plan.{mode_of}
use Rattle.geom.specs.Fit.{AllFitAny}
use Rattle.ringcore_laws.specs.declared.contents.Item.{Item}
use Rattle.ringcore_laws.specs.declared.protocol.Span.{Span}
use Rattle.ringcore_laws.specs.declared.protocol.Step.{Step}
use Rattle.ringcore_laws.specs.declared.protocol.Step.TheVariants.{Look, Room, Reserve, SettlePut, SettleTake, Stash, Unstash}
use Rattle.ringcore_laws.specs.declared.protocol.Reply.{Reply}
use Rattle.ringcore_laws.specs.declared.protocol.Reply.TheVariants.{NoSpan, Seen, NotYours, BadCount, NotYet, Done}
use Rattle.ringcore_laws.specs.declared.party.Party.{Party}
use Rattle.ringcore_laws.specs.Party.{is_on}
use Rattle.ringcore_laws.specs.RingSide.{side_of, listed}
use Rattle.ringcore_laws.specs.History.{Actor, Event, IsRun, StaysSound, opening, reply_to, after, after_all, reserve_reply, on_ring, put_reply, take_reply}
use Rattle.ringcore_laws.specs.History.{actor_reply, reply_to_one, parties_of, is_held, is_cached, tags, is_bad_settle, may_put, earlier_open, look_reply}
use Rattle.ringcore_laws.specs.History.{room_reply, other_side}
use Rattle.ringcore_laws.specs.Runs.{IsPlan, history_of, is_grant, OneSpanEach, steps_of}
use Rattle.ringcore_laws.specs.Sound.{holds}
use Rattle.ringcore_laws.proofs.OpeningLaws.{from_opening, opening_kept}
use Rattle.ringcore_laws.proofs.HistoryLaws.{event_kept}
use Rattle.ringcore_laws.specs.Invariant.{Invariant}

pub replies_of : (plans : List RingPlan) (pool : ℕ) (actors : List Actor) (steps : List (ℕ × Step))
    → IsRun plans pool actors (history_of plans pool actors steps)
replies_of plans pool actors [] = tt
replies_of plans pool actors (s ∷ steps) =
    (refl, replies_of plans pool (after actors record { actor = s.0; step = s.1; reply = reply_to plans pool actors s.0 s.1 }) steps)

-- the headline, stated for lists of steps
pub every_list_of_steps : (plans : List RingPlan) (actors : ℕ) (gifts : List ℕ) (steps : List (ℕ × Step)) → IsPlan plans actors gifts
    → StaysSound plans (length gifts) (opening actors gifts) (history_of plans (length gifts) (opening actors gifts) steps)
every_list_of_steps plans actors gifts steps p =
    from_opening plans actors gifts (history_of plans (length gifts) (opening actors gifts) steps) p.rings p.to_actors
    (replies_of plans (length gifts) (opening actors gifts) steps)

-- what a run keeps
pub run_kept : (plans : List RingPlan) (pool : ℕ) (actors : List Actor) (events : List Event)
    → AllFitAny plans pool → Invariant plans pool actors → IsRun plans pool actors events → Invariant plans pool (after_all actors events)
run_kept plans pool actors [] fits k run = k
run_kept plans pool actors (e ∷ events) fits k run =
    run_kept plans pool (after actors e) events fits (event_kept plans pool actors e fits run.0 k) run.1

pub kept_after : (plans : List RingPlan) (actors : ℕ) (gifts : List ℕ) (steps : List (ℕ × Step)) → IsPlan plans actors gifts
    → Invariant plans (length gifts) (after_all (opening actors gifts) (history_of plans (length gifts) (opening actors gifts) steps))
kept_after plans actors gifts steps p =
    run_kept plans (length gifts) (opening actors gifts) (history_of plans (length gifts) (opening actors gifts) steps) p.rings
    (opening_kept plans actors gifts p.to_actors) (replies_of plans (length gifts) (opening actors gifts) steps)

-- a span is granted only to an actor that has none open
not_true : {X : Type 0} (b : Bool) → b ≡ false → b ≡ true → X
not_true b off on = absurd (let u : true ≡ false = sym on ∙ off in cc)

open_refused : (span : Option Span) (r : Reply) → is_grant (if is_some span then NoSpan else r) ≡ true → span ≡ None
open_refused None r h = refl
open_refused (Some s) r h = absurd (let u : false ≡ true = h in cc)

local_grants_none : (b : Bool) (x : ℕ) → is_grant (if b then Seen x else NotYours) ≡ false
local_grants_none true x = refl
local_grants_none false x = refl

put_chain : (off bad wrong early : Bool) (len count : ℕ)
    → is_grant (if off then NoSpan else if bad then BadCount else if wrong then NotYours else if early then NotYet len else Done count []) ≡ false
put_chain true bad wrong early len count = refl
put_chain false true wrong early len count = refl
put_chain false false true early len count = refl
put_chain false false false true len count = refl
put_chain false false false false len count = refl

take_chain : (off bad early : Bool) (len count : ℕ) (items : List Item)
    → is_grant (if off then NoSpan else if bad then BadCount else if early then NotYet len else Done count items) ≡ false
take_chain true bad early len count items = refl
take_chain false true early len count items = refl
take_chain false false true len count items = refl
take_chain false false false len count items = refl

on_a_ring : {X : Type 0} (o : Option RingPlan) (f : RingPlan → Reply) → ((plan : RingPlan) → is_grant (f plan) ≡ true → X) → is_grant (on_ring o f) ≡ true → X
on_a_ring None f each h = absurd (let u : false ≡ true = h in cc)
on_a_ring (Some plan) f each h = each plan h

put_grants_none : (plan : RingPlan) (ring : ℕ) (parties : List (Party Item)) (a : Actor) (items : List Item) (span : Option Span)
    → is_grant (put_reply plan ring parties a items span) ≡ false
put_grants_none plan ring parties a items None = refl
put_grants_none plan ring parties a items (Some s) =
    put_chain (not (is_on s.ring s.side ring Put)) (is_bad_settle plan.put (length items) s.count) (not (may_put plan.free a items))
    (earlier_open ring Put s.start parties) (side_of parties ring Put).len (length items)

take_grants_none : (plan : RingPlan) (ring : ℕ) (parties : List (Party Item)) (count : ℕ) (span : Option Span)
    → is_grant (take_reply plan ring parties count span) ≡ false
take_grants_none plan ring parties count None = refl
take_grants_none plan ring parties count (Some s) =
    take_chain (not (is_on s.ring s.side ring Take)) (is_bad_settle plan.take count s.count) (earlier_open ring Take s.start parties)
    (side_of parties ring Take).len count (take count (drop s.start (listed (side_of parties ring Put))))

granted_when_idle : (plans : List RingPlan) (pool : ℕ) (parties : List (Party Item)) (a : Actor) (step : Step)
    → is_grant (actor_reply plans pool parties a step) ≡ true → a.party.span ≡ None
granted_when_idle plans pool parties a (Look ring side) h =
    on_a_ring (slice_get plans ring) (λ plan. look_reply plan.geometry (mode_of plan side) (side_of parties ring side) a) (λ plan g. open_refused a.party.span _ g) h
granted_when_idle plans pool parties a (Room ring side) h =
    on_a_ring (slice_get plans ring) (λ plan. room_reply ring side (side_of parties ring (other_side side)) a) (λ plan g. open_refused a.party.span _ g) h
granted_when_idle plans pool parties a (Reserve ring side how count) h =
    on_a_ring (slice_get plans ring) (λ plan. reserve_reply plan pool ring side how count (side_of parties ring side) a)
    (λ plan g. open_refused a.party.span _ g) h
granted_when_idle plans pool parties a (SettlePut ring items) h =
    on_a_ring (slice_get plans ring) (λ plan. put_reply plan ring parties a items a.party.span)
    (λ plan g. not_true _ (put_grants_none plan ring parties a items a.party.span) g) h
granted_when_idle plans pool parties a (SettleTake ring count) h =
    on_a_ring (slice_get plans ring) (λ plan. take_reply plan ring parties count a.party.span)
    (λ plan g. not_true _ (take_grants_none plan ring parties count a.party.span) g) h
granted_when_idle plans pool parties a (Stash b) h = not_true _ (local_grants_none (is_held a b) b) h
granted_when_idle plans pool parties a (Unstash b) h = not_true _ (local_grants_none ((holds tags b a.party == 1) && is_cached a b) b) h

pub one_span_each : (plans : List RingPlan) (pool : ℕ) (actors : List Actor) (events : List Event) → IsRun plans pool actors events → OneSpanEach actors events
unfolding reply_to
one_span_each plans pool actors [] right = tt
one_span_each plans pool actors (e ∷ events) right = (
  (λ grant a here.
      granted_when_idle plans pool (parties_of actors) a e.step
      (sym (ap is_grant (right.0 ∙ ap (λ (v : Option Actor). reply_to_one plans pool (parties_of actors) v e.step) here)) ∙ grant)),
  one_span_each plans pool (after actors e) events right.1,
)

-- each event is the one in the history of the steps
pub history_of_steps : (plans : List RingPlan) (pool : ℕ) (actors : List Actor) (events : List Event) → IsRun plans pool actors events
    → events ≡ history_of plans pool actors (steps_of events)
history_of_steps plans pool actors [] right = refl
history_of_steps plans pool actors (e ∷ events) right =
    let answered : Event = record { actor = e.actor; step = e.step; reply = reply_to plans pool actors e.actor e.step } in
    let same : e ≡ answered = λ i. record { actor = e.actor; step = e.step; reply = right.0 i } in
    ap (λ (v : List Event). e ∷ v) (history_of_steps plans pool (after actors e) events right.1)
    ∙ ap (λ (v : Event). v ∷ history_of plans pool (after actors v) (steps_of events)) same
