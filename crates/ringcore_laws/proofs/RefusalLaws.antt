-- Refusals are true, after every list of steps
use Rattle.std.proofs.Common.{ℕ, zero, suc, ◌+◌, ◌≤◌, ◌<◌, ◌≡◌, ◌≢◌, ◌∙◌, inl, inr, List, [], ◌∷◌, length, refl, ap, sym, subst, arith, true, false, Bool}
use Rattle.std.specs.Prelude.{slice_get, slice_index_or, Option, Some, None, nat_lt, nat_le, ◌&&◌, ◌||◌, ◌==◌, if◌then◌else◌}
use Rattle.std.specs.List.{list_any, sum_by}
use Rattle.std.proofs.lemmas.Bool.Decides.{nat_tests}
use Rattle.std.proofs.lemmas.List.FromFn.{get_or-map-range_with_len, length-map-range_with_len}
use Rattle.std.proofs.lemmas.List.Sums.{sum_by-cons}
use Rattle.std.proofs.lemmas.Option.{get_or_from_slice_get, slice_get_within}
use Rattle.geom.specs.declared.plan.How.{How}
use Rattle.geom.specs.declared.plan.How.TheVariants.{Bulk, Burst}
use Rattle.geom.specs.declared.plan.Mode.{Mode}
use Rattle.geom.specs.declared.plan.Mode.TheVariants.{Multi, Hts}
use Rattle.geom.specs.declared.plan.RingPlan.{RingPlan}
use Rattle.geom.specs.declared.plan.Side.{Side}
use Rattle.geom.specs.declared.plan.Side.TheVariants.{Put, Take}
use Rattle.geom.specs.Plan.{mode_of, granted}
use Rattle.geom.specs.Extent.{Extent}
use Rattle.geom.specs.Fit.{AllFitAny}
use Rattle.ringcore_laws.specs.declared.contents.Item.{Item}
use Rattle.ringcore_laws.specs.declared.protocol.Observed.{Observed}
use Rattle.ringcore_laws.specs.declared.protocol.Span.{Span}
use Rattle.ringcore_laws.specs.declared.protocol.Step.{Step}
use Rattle.ringcore_laws.specs.declared.protocol.Step.TheVariants.{Look, Reserve, SettlePut, SettleTake}
use Rattle.ringcore_laws.specs.declared.protocol.Reply.{Reply}
use Rattle.ringcore_laws.specs.declared.protocol.Reply.TheVariants.{Busy, Contended, NoRoom, NoSpan, NotYet}
use Rattle.ringcore_laws.specs.declared.party.Party.{Party}
use Rattle.ringcore_laws.specs.Party.{is_on, newcomer}
use Rattle.ringcore_laws.specs.RingSide.{RingSide, side_of, span_count}
use Rattle.ringcore_laws.specs.HeadTailRule.{RuledSide, base}
use Rattle.ringcore_laws.specs.Invariant.{Invariant}
use Rattle.ringcore_laws.specs.FreeRings.{AreSingle, FreeRule, buffers_had}
use Rattle.ringcore_laws.specs.Refusals.{is_room_answer, HasEarlier, HasMoved, IsTaken, IsTooLittle, PutsFindRoom, at_last_room, is_room_of, room_on}
use Rattle.ringcore_laws.specs.Runs.{IsPlan, history_of}
use Rattle.ringcore_laws.specs.History.{Actor, Event, IsRun, after, after_all, after_step, buffers_of_actor, earlier_open, buffers_given, is_bad_reserve}
use Rattle.ringcore_laws.specs.History.{is_busy, look_reply, one_stepped, opening, other_side, parties_of, position_of, put_reply, actor_reply, reply_to}
use Rattle.ringcore_laws.specs.History.{reply_to_one, reserve_reply, room_by_look, starts_below, tags, take_reply}
use Rattle.ringcore_laws.proofs.Laws.{element, same_plan}
use Rattle.ringcore_laws.proofs.RingLaws.{below_or_not}
use Rattle.ringcore_laws.proofs.HistoryLaws.{and_true, event_kept, on_true, parties_length}
use Rattle.ringcore_laws.proofs.OpeningLaws.{opening_kept, put_of_opening}
use Rattle.ringcore_laws.proofs.RunLaws.{replies_of}
use Rattle.ringcore_laws.proofs.Telling.{contended_tells, look_busy_tells, no_room_tells, on_some_ring, put_early_tells, reserve_tells, take_early_tells}
use Rattle.ringcore_laws.proofs.Changes.{changes, free_count}
use Rattle.ringcore_laws.proofs.FreeRoom.{room_for_all}
use Rattle.ringcore_laws.proofs.FreeLaws.{rule_after}
use Rattle.ringcore_laws.proofs.LookLaws.{LookLaw, Looks, looks_after, no_room_answer}

-- 1. Along a run

-- one more event
event_looks : (plans : List RingPlan) (pool : ℕ) (actors : List Actor) (found : ℕ → Option (List Actor)) (e : Event)
    → e.reply ≡ reply_to plans pool actors e.actor e.step → Invariant plans pool actors → FreeRule tags plans pool (parties_of actors)
    → Looks plans pool actors found
    → FreeRule tags plans pool (parties_of (after actors e)) × Looks plans pool (after actors e) (λ i. if is_room_of i e then Some actors else found i)
unfolding reply_to after
event_looks plans pool actors found e right k rule looks = by_actor (slice_get actors e.actor) refl
  where
    by_actor : (o : Option Actor) → slice_get actors e.actor ≡ o
        → FreeRule tags plans pool (parties_of (one_stepped actors e.actor (slice_get actors e.actor) e.step e.reply))
        × Looks plans pool (one_stepped actors e.actor (slice_get actors e.actor) e.step e.reply) (λ i. if is_room_of i e then Some actors else found i)
    by_actor None h =
        let reply : e.reply ≡ NoSpan = right ∙ ap (λ (v : Option Actor). reply_to_one plans pool (parties_of actors) v e.step) h in
        subst (λ (v : Option Actor). FreeRule tags plans pool (parties_of (one_stepped actors e.actor v e.step e.reply))
        × Looks plans pool (one_stepped actors e.actor v e.step e.reply) (λ i. if is_room_of i e then Some actors else found i)) (sym h) (
          rule,
          record {
            each = λ i a s here seen. subst (λ (f : Option (List Actor)). LookLaw plans pool actors f i a s) (sym (stays i e.step reply))
                (looks.each i a s here seen);
          },
        )
      where
        off : (b : Bool) (i : ℕ) → (if b && false then Some actors else found i) ≡ found i
        off true i = refl
        off false i = refl

        stays : (i : ℕ) (step : Step) → e.reply ≡ NoSpan → (if is_room_of i e then Some actors else found i) ≡ found i
        stays i step reply =
            ap (λ r. if (e.actor == i) && is_room_answer e.step r then Some actors else found i) reply
            ∙ (ap (λ t. if (e.actor == i) && t then Some actors else found i) (no_room_answer e.step) ∙ off (e.actor == i) i)
    by_actor (Some a) h =
        let lt = slice_get_within actors e.actor a h in
        let at : (d : Actor) → slice_index_or actors e.actor d ≡ a = λ d. get_or_from_slice_get actors e.actor a d h in
        let reply : e.reply ≡ actor_reply plans pool (parties_of actors) a e.step =
        right ∙ ap (λ (v : Option Actor). reply_to_one plans pool (parties_of actors) v e.step) h in
        subst (λ (v : Option Actor). FreeRule tags plans pool (parties_of (one_stepped actors e.actor v e.step e.reply))
        × Looks plans pool (one_stepped actors e.actor v e.step e.reply) (λ i. if is_room_of i e then Some actors else found i)) (sym h) (
          rule_after plans pool actors e.actor a lt at k rule (after_step a e.step e.reply)
              (changes plans pool actors e.actor a lt at k e.step e.reply (sym reply)),
          looks_after plans pool actors found looks e.actor a h k rule e.step e.reply (sym reply),
        )

-- the state after these events
pub record Standing (plans : List RingPlan) (pool : ℕ) (actors : List Actor) (found : ℕ → Option (List Actor)) : Type 0 where
  pub kept : Invariant plans pool actors
  pub rule : FreeRule tags plans pool (parties_of actors)
  pub looks : Looks plans pool actors found

along : (plans : List RingPlan) (pool : ℕ) (actors : List Actor) (found : ℕ → Option (List Actor)) (events : List Event)
    → AllFitAny plans pool → IsRun plans pool actors events → Standing plans pool actors found
    → Standing plans pool (after_all actors events) (λ i. at_last_room actors (found i) i events)
along plans pool actors found [] fits run s = s
along plans pool actors found (e ∷ events) fits run s =
    let next = event_looks plans pool actors found e run.0 s.kept s.rule s.looks in
    along plans pool (after actors e) (λ i. if is_room_of i e then Some actors else found i) events fits run.1
    record { kept = event_kept plans pool actors e fits run.0 s.kept; rule = next.0; looks = next.1 }

-- the party of an actor
party_at : (actors : List Actor) (i : ℕ) (d : Party Item) (a : Actor) → slice_get actors i ≡ Some a → slice_index_or (parties_of actors) i d ≡ a.party
party_at [] i d a at = absurd (let u : None ≡ Some a = at in cc)
party_at (x ∷ xs) zero d a at = ap (λ (v : Actor). v.party) (same_plan at)
party_at (x ∷ xs) (suc i) d a at = party_at xs i d a at

-- at the opening nobody has an open span or a look
fresh_actor : (n : ℕ) (gifts : List ℕ) (i : ℕ) (a : Actor) → slice_get (opening n gifts) i ≡ Some a → (a.party.span ≡ None) × (a.observed ≡ None)
fresh_actor n gifts i a at =
    let lt : i < n = omega (arith, slice_get_within (opening n gifts) i a at, length-map-range_with_len given 0 n) in
    let is : a ≡ given i = sym (get_or_from_slice_get (opening n gifts) i a a at) ∙ get_or-map-range_with_len given 0 n i i a lt (omega arith) in
    (ap (λ (v : Actor). v.party.span) is, ap (λ (v : Actor). v.observed) is)
  where
    given : ℕ → Actor
    given j = record { party = newcomer (buffers_given gifts j); observed = None; cached = [] }

fresh_party : (n : ℕ) (gifts : List ℕ) (i : ℕ) (d : Party Item) → i < length (parties_of (opening n gifts))
    → (slice_index_or (parties_of (opening n gifts)) i d).span ≡ None
fresh_party n gifts i d lt =
    let a = element (opening n gifts) i (omega (arith, lt, parties_length (opening n gifts))) in
    let is = party_at (opening n gifts) i d a.0 a.1 in
    ap (λ (p : Party Item). p.span) is ∙ (fresh_actor n gifts i a.0 a.1).0

standing_first : (plans : List RingPlan) (actors : ℕ) (gifts : List ℕ) → IsPlan plans actors gifts
    → Standing plans (length gifts) (opening actors gifts) (λ i. None)
standing_first plans actors gifts plan = record {
  kept = opening_kept plans actors gifts plan.to_actors;
  rule = record {
    singles = λ r p there free. subst (AreSingle tags) (sym (put_of_opening actors gifts r)) refl;
    few = λ i d lt s p busy there put free. absurd (let u : None ≡ Some s = sym (fresh_party actors gifts i d lt) ∙ busy in cc);
  };
  looks = record { each = λ i a s at seen. absurd (let u : None ≡ Some s = sym (fresh_actor actors gifts i a at).1 ∙ seen in cc) };
}

pub standing_after : (plans : List RingPlan) (actors : ℕ) (gifts : List ℕ) (steps : List (ℕ × Step)) → IsPlan plans actors gifts
    → let start = opening actors gifts in let events = history_of plans (length gifts) start steps in
    Standing plans (length gifts) (after_all start events) (λ i. at_last_room start None i events)
standing_after plans actors gifts steps plan =
    let start = opening actors gifts in
    along plans (length gifts) start (λ i. None) (history_of plans (length gifts) start steps) plan.rings
    (replies_of plans (length gifts) start steps) (standing_first plans actors gifts plan)

-- 2. The refusals

positive_count : (side : Side) (free : Bool) (count had : ℕ) → is_bad_reserve side free count had ≡ false → 0 < count
positive_count Put free count had good = some (count == 0) (free && nat_lt had count) refl good
  where
    some : (b t : Bool) → (count == 0) ≡ b → (b || t) ≡ false → 0 < count
    some true t e h = absurd (let u : true ≡ false = h in cc)
    some false t e h = grind (arith, nat_tests)
positive_count Take free count had good = grind (arith, nat_tests)

-- nothing granted: too little room
too_little : (how : How) (count room there : ℕ) → 0 < count → granted how count room ≡ 0 → there ≤ room → IsTooLittle how count there
too_little Bulk count room there some none le = by_test (nat_le count room) refl none
  where
    by_test : (t : Bool) → nat_le count room ≡ t → (if t then count else 0) ≡ 0 → there < count
    by_test true e h = absurd (omega (arith, h, some))
    by_test false e h = let more : room < count = grind (arith, nat_tests) in omega (arith, more, le)
too_little Burst count room there some none le = omega (arith, some, none, le)

base_le : (e : Extent) (mode : Mode) (l : RingSide Item) → RuledSide e mode l → base mode l ≤ l.reach
base_le e Multi l ruled = omega arith
base_le e Hts l ruled = ruled.behind

-- an element that makes a sum positive, or a test of some element true
some_positive : {X : Type 0} (f : X → ℕ) (xs : List X) → 0 < sum_by f xs → (j : ℕ) × (x : X) × (slice_get xs j ≡ Some x) × (0 < f x)
some_positive f [] more = absurd (omega (arith, more))
some_positive f (x ∷ xs) more = elim (below_or_not 0 (f x)) [
  | inl here ↦ (zero, x, refl, here)
  | inr none ↦
      let rest = some_positive f xs (omega (arith, more, none, sum_by-cons f x xs)) in
      (suc rest.0, rest.1, rest.2, rest.3)
]

some_true : {X : Type 0} (f : X → Bool) (xs : List X) → list_any f xs ≡ true → (j : ℕ) × (x : X) × (slice_get xs j ≡ Some x) × (f x ≡ true)
some_true f [] any = absurd (let u : false ≡ true = any in cc)
some_true {X = X} f (x ∷ xs) any = by_first (f x) refl (λ rest. some_true f xs rest)
  where
    by_first : (t : Bool) → f x ≡ t → (list_any f xs ≡ true → (j : ℕ) × (y : X) × (slice_get xs j ≡ Some y) × (f y ≡ true))
        → (j : ℕ) × (y : X) × (slice_get (x ∷ xs) j ≡ Some y) × (f y ≡ true)
    by_first true e more = (zero, x, refl, e)
    by_first false e more =
        let rest = more (ap (λ t. t || list_any f xs) (sym e) ∙ any) in
        (suc rest.0, rest.1, rest.2, rest.3)

-- the actor of a party
party_of_actor : (actors : List Actor) (j : ℕ) (p : Party Item) → slice_get (parties_of actors) j ≡ Some p → (c : Actor) × (slice_get actors j ≡ Some c)
    × (c.party ≡ p)
party_of_actor [] j p at = absurd (let u : None ≡ Some p = at in cc)
party_of_actor (a ∷ actors) zero p at = (a, refl, same_plan at)
party_of_actor (a ∷ actors) (suc j) p at = party_of_actor actors j p at

some_open : (ring : ℕ) (side : Side) (parties : List (Party Item)) → 0 < (side_of parties ring side).open_count
    → (j : ℕ) × (p : Party Item) × (slice_get parties j ≡ Some p) × (span : Span) × (p.span ≡ Some span) × (is_on span.ring span.side ring side ≡ true)
unfolding side_of
some_open ring side parties more =
    let found = some_positive (λ (party : Party Item). span_count ring side party.span) parties more in
    let open_span = by_span found.1.span found.3 in
    (found.0, found.1, found.2, open_span.0, open_span.1, open_span.2)
  where
    by_on : (s : Span) (t : Bool) → is_on s.ring s.side ring side ≡ t → 0 < (if t then s.count else 0) → is_on s.ring s.side ring side ≡ true
    by_on s true on more = on
    by_on s false off more = absurd (omega (arith, more))

    by_span : (o : Option Span) → 0 < span_count ring side o → (span : Span) × (o ≡ Some span) × (is_on span.ring span.side ring side ≡ true)
    by_span None more = absurd (omega (arith, more))
    by_span (Some s) more = (s, refl, by_on s (is_on s.ring s.side ring side) refl more)

busy_open : (mode : Mode) (l : RingSide Item) → is_busy mode l ≡ true → 0 < l.open_count
busy_open Multi l busy = absurd (let u : false ≡ true = busy in cc)
busy_open Hts l busy = grind (arith, nat_tests, busy)

-- an earlier span than the own one
earlier : (now : List Actor) (i ring : ℕ) (side : Side) (a : Actor) → slice_get now i ≡ Some a → (own : Span) → a.party.span ≡ Some own
    → is_on own.ring own.side ring side ≡ true → earlier_open ring side own.start (parties_of now) ≡ true → HasEarlier now i
earlier now i ring side a at own busy on early =
    let found = some_true (λ (party : Party Item). starts_below ring side own.start party.span) (parties_of now) early in
    let c = party_of_actor now found.0 found.1 found.2 in
    let span = by_span found.1.span found.3 in
    let place = on_true own.ring ring own.side side on in
    let here : is_on span.0.ring span.0.side own.ring own.side ≡ true =
    ap (λ v. is_on span.0.ring span.0.side v own.side) (sym place.0) ∙ (ap (λ v. is_on span.0.ring span.0.side ring v) (sym place.1) ∙ span.2) in
    (a, own, found.0, c.0, span.0, at, busy, c.1, ap (λ (p : Party Item). p.span) c.2 ∙ span.1, here, span.3)
  where
    by_span : (o : Option Span) → starts_below ring side own.start o ≡ true
        → (s : Span) × (o ≡ Some s) × (is_on s.ring s.side ring side ≡ true) × (s.start < own.start)
    by_span None below = absurd (let u : false ≡ true = below in cc)
    by_span (Some s) below =
        let both = and_true (is_on s.ring s.side ring side) (nat_lt s.start own.start) below in
        (s, refl, both.0, grind (arith, nat_tests, both.1))

module _ (plans : List RingPlan) (pool : ℕ) (now : List Actor) (found : ℕ → Option (List Actor)) (s : Standing plans pool now found) (i : ℕ) where
  -- the actor that received a reply other than NoSpan
  asked_actor : (step : Step) (reply : Reply) → NoSpan ≢ reply → reply_to plans pool now i step ≡ reply
      → (a : Actor) × (slice_get now i ≡ Some a) × (actor_reply plans pool (parties_of now) a step ≡ reply)
  unfolding reply_to
  asked_actor step reply some right = by_actor (slice_get now i) refl right
    where
      by_actor : (o : Option Actor) → slice_get now i ≡ o → reply_to_one plans pool (parties_of now) o step ≡ reply
          → (a : Actor) × (slice_get now i ≡ Some a) × (actor_reply plans pool (parties_of now) a step ≡ reply)
      by_actor None at h = absurd (some h)
      by_actor (Some a) at h = (a, at, h)

  module _ (ring : ℕ) (side : Side) (how : How) (count : ℕ) (plan : RingPlan) (there : slice_get plans ring ≡ Some plan) where
    -- the state at the last question for room, if a Reserve was answered NoRoom
    record Refused : Type 0 where
      pub past : List Actor
      pub is : found i ≡ Some past
      pub room : ℕ
      pub none : granted how count room ≡ 0
      pub some : 0 < count
      pub little : room_on plan (parties_of past) ring side ≤ room
      pub enough : side ≡ Put → plan.free ≡ true → pool ≤ plan.geometry.capacity → count ≤ room

    refused : (room : ℕ) → reply_to plans pool now i (Reserve ring side how count) ≡ NoRoom room → Refused
    refused room right =
        let me = asked_actor (Reserve ring side how count) (NoRoom room) (λ e. (let u : NoSpan ≡ NoRoom room = e in cc)) right in
        let a = me.0 in
        let l = side_of (parties_of now) ring side in
        let told =
        on_some_ring (slice_get plans ring) (λ p. reserve_reply p pool ring side how count l a) (NoRoom room)
        (λ e. (let u : NoSpan ≡ NoRoom room = e in cc)) me.2 in
        let same : told.0 ≡ plan = same_plan (sym told.1 ∙ there) in
        let reply : reserve_reply plan pool ring side how count l a ≡ NoRoom room =
        subst (λ (p : RingPlan). reserve_reply p pool ring side how count l a ≡ NoRoom room) same told.2 in
        let r = reserve_tells plan pool ring side how count l a (NoRoom room) (λ e. (let u : NoSpan ≡ NoRoom room = e in cc)) reply in
        let n = no_room_tells plan side how count l (buffers_of_actor pool a) r.look.looked_at r.tail room r.answer in
        let q = (s.looks.each i a r.look me.1 r.looked).room r.tail r.seen in
        let place = on_true r.look.ring ring r.look.side side r.on in
        let some = positive_count side plan.free count (buffers_of_actor pool a) n.0 in
        let at_look : slice_get plans r.look.ring ≡ Some plan = ap (slice_get plans) (sym place.0) ∙ there in
        let behind : position_of plan.geometry (mode_of plan side) r.look.looked_at ≤ base (mode_of plan side) (side_of (parties_of q.past) ring side) =
        subst (λ (v : ℕ). position_of plan.geometry (mode_of plan side) r.look.looked_at ≤ base (mode_of plan side) (side_of (parties_of q.past) v side)) (sym place.0)
        (subst (λ (v : Side). position_of plan.geometry (mode_of plan v) r.look.looked_at ≤ base (mode_of plan v) (side_of (parties_of q.past) r.look.ring v)) (sym place.1)
        (q.behind plan at_look)) in
        let seen : r.tail ≡ (side_of (parties_of q.past) ring (other_side side)).len =
        q.seen ∙ (ap (λ v. (side_of (parties_of q.past) v (other_side r.look.side)).len) (sym place.0)
        ∙ ap (λ v. (side_of (parties_of q.past) ring (other_side v)).len) (sym place.1)) in
        record {
          past = q.past;
          is = q.is;
          room = room_by_look side plan.geometry.capacity (position_of plan.geometry (mode_of plan side) r.look.looked_at) r.tail;
          none = n.1;
          some = some;
          little = little side (parties_of q.past) (position_of plan.geometry (mode_of plan side) r.look.looked_at) r.tail
              (base (mode_of plan side) (side_of (parties_of q.past) ring side))
              behind seen (base_le plan.geometry (mode_of plan side) (side_of (parties_of q.past) ring side) (q.kept.ruled.sides ring side plan there));
          enough = λ put free fits.
              enough side put (parties_of q.past) (position_of plan.geometry (mode_of plan side) r.look.looked_at) r.tail (buffers_of_actor pool a) behind seen
              (subst (λ (v : ℕ). base plan.put (side_of (parties_of q.past) ring Put) + v ≤ plan.geometry.capacity
              + (side_of (parties_of q.past) ring Take).len)
              (ap (buffers_had tags pool) (party_at q.past i a.party q.me q.at ∙ q.same))
              (room_for_all tags plans pool (parties_of q.past) q.kept.sound q.kept.ruled q.rule i a.party
              (omega (arith, slice_get_within q.past i q.me q.at, parties_length q.past))
              (ap (λ (p : Party Item). p.span) (party_at q.past i a.party q.me q.at ∙ q.same) ∙ r.idle) ring plan there free fits))
              (had side put n.0 free);
        }
      where
        little : (v : Side) (parties : List (Party Item)) (position tail low : ℕ) → position ≤ low → tail ≡ (side_of parties ring (other_side v)).len
            → low ≤ (side_of parties ring v).reach → room_on plan parties ring v ≤ room_by_look v plan.geometry.capacity position tail
        little Put parties position tail low le seen reach = omega (arith, le, seen, reach)
        little Take parties position tail low le seen reach = omega (arith, le, seen, reach)

        enough : (v : Side) → v ≡ Put → (parties : List (Party Item)) (position tail had : ℕ) → position ≤ base (mode_of plan v) (side_of parties ring v)
            → tail ≡ (side_of parties ring (other_side v)).len
            → base plan.put (side_of parties ring Put) + had ≤ plan.geometry.capacity + (side_of parties ring Take).len → count ≤ had
            → count ≤ room_by_look v plan.geometry.capacity position tail
        enough Put put parties position tail had le seen all few = omega (arith, le, seen, all, few)
        enough Take put parties position tail had le seen all few = absurd (let u : Take ≡ Put = put in cc)

        had : (v : Side) → v ≡ Put → {h : ℕ} → is_bad_reserve v plan.free count h ≡ false → plan.free ≡ true → count ≤ h
        had Put put {h} good free = free_count plan.free count h good free
        had Take put {h} good free = absurd (let u : Take ≡ Put = put in cc)

    pub had_no_room : (room : ℕ) → reply_to plans pool now i (Reserve ring side how count) ≡ NoRoom room
        → (past : List Actor) × (found i ≡ Some past) × IsTooLittle how count (room_on plan (parties_of past) ring side)
    had_no_room room right =
        let r = refused room right in
        (r.past, r.is, too_little how count r.room (room_on plan (parties_of r.past) ring side) r.some r.none r.little)

    pub never_no_room : (room : ℕ) → side ≡ Put → plan.free ≡ true → pool ≤ plan.geometry.capacity
        → reply_to plans pool now i (Reserve ring side how count) ≢ NoRoom room
    never_no_room room put free fits right =
        let r = refused room right in
        granted_some how r.room r.none r.some (r.enough put free fits)
      where
        granted_some : (v : How) (room : ℕ) → granted v count room ≡ 0 → 0 < count → count ≤ room → ⊥
        granted_some Bulk room none some le = by_test (nat_le count room) refl none
          where
            by_test : (t : Bool) → nat_le count room ≡ t → (if t then count else 0) ≡ 0 → ⊥
            by_test true e h = omega (arith, h, some)
            by_test false e h = (let more : room < count = grind (arith, nat_tests) in omega (arith, more, le))
        granted_some Burst room none some le = omega (arith, none, some, le)

    pub has_moved : (word : ℕ) → reply_to plans pool now i (Reserve ring side how count) ≡ Contended word → HasMoved plan now i ring side word
    has_moved word right =
        let me = asked_actor (Reserve ring side how count) (Contended word) (λ e. (let u : NoSpan ≡ Contended word = e in cc)) right in
        let a = me.0 in
        let l = side_of (parties_of now) ring side in
        let told =
        on_some_ring (slice_get plans ring) (λ p. reserve_reply p pool ring side how count l a) (Contended word)
        (λ e. (let u : NoSpan ≡ Contended word = e in cc)) me.2 in
        let same : told.0 ≡ plan = same_plan (sym told.1 ∙ there) in
        let reply : reserve_reply plan pool ring side how count l a ≡ Contended word =
        subst (λ (p : RingPlan). reserve_reply p pool ring side how count l a ≡ Contended word) same told.2 in
        let r = reserve_tells plan pool ring side how count l a (Contended word) (λ e. (let u : NoSpan ≡ Contended word = e in cc)) reply in
        let n = contended_tells plan side how count l (buffers_of_actor pool a) r.look.looked_at r.tail word r.answer in (
          sym n.0,
          λ b s at seen is.
              let who : a ≡ b = same_plan (sym me.1 ∙ at) in
              let look : r.look ≡ s = same_plan (sym r.looked ∙ (ap (λ (v : Actor). v.observed) who ∙ seen)) in
              n.1 (n.0 ∙ (sym is ∙ sym (ap (λ (v : Observed). v.looked_at) look))),
        )

  pub is_taken : (ring : ℕ) (side : Side) (word : ℕ) → reply_to plans pool now i (Look ring side) ≡ Busy word → IsTaken now i ring side
  is_taken ring side word right =
      let me = asked_actor (Look ring side) (Busy word) (λ e. (let u : NoSpan ≡ Busy word = e in cc)) right in
      let told =
      on_some_ring (slice_get plans ring) (λ p. look_reply p.geometry (mode_of p side) (side_of (parties_of now) ring side) me.0) (Busy word)
      (λ e. (let u : NoSpan ≡ Busy word = e in cc)) me.2 in
      let busy = look_busy_tells told.0.geometry (mode_of told.0 side) (side_of (parties_of now) ring side) me.0 word told.2 in
      let open_one = some_open ring side (parties_of now) (busy_open (mode_of told.0 side) (side_of (parties_of now) ring side) busy.1) in
      let c = party_of_actor now open_one.0 open_one.1 open_one.2 in
      let span : c.0.party.span ≡ Some open_one.3 = ap (λ (p : Party Item). p.span) c.2 ∙ open_one.4 in (
        open_one.0,
        c.0,
        open_one.3,
        (λ same.
            let who : c.0 ≡ me.0 = same_plan (sym c.1 ∙ (ap (slice_get now) same ∙ me.1)) in
            (let u : None ≡ Some open_one.3 = sym busy.0 ∙ (ap (λ (v : Actor). v.party.span) (sym who) ∙ span) in cc)),
        c.1,
        span,
        open_one.5,
      )

  pub early_put : (ring : ℕ) (items : List Item) (tail : ℕ) → reply_to plans pool now i (SettlePut ring items) ≡ NotYet tail → HasEarlier now i
  early_put ring items tail right =
      let me = asked_actor (SettlePut ring items) (NotYet tail) (λ e. (let u : NoSpan ≡ NotYet tail = e in cc)) right in
      let told =
      on_some_ring (slice_get plans ring) (λ p. put_reply p ring (parties_of now) me.0 items me.0.party.span) (NotYet tail)
      (λ e. (let u : NoSpan ≡ NotYet tail = e in cc)) me.2 in
      let early = put_early_tells told.0 ring (parties_of now) me.0 items me.0.party.span tail told.2 in
      earlier now i ring Put me.0 me.1 early.0 early.1 early.2 early.3

  pub early_take : (ring count : ℕ) (tail : ℕ) → reply_to plans pool now i (SettleTake ring count) ≡ NotYet tail → HasEarlier now i
  early_take ring count tail right =
      let me = asked_actor (SettleTake ring count) (NotYet tail) (λ e. (let u : NoSpan ≡ NotYet tail = e in cc)) right in
      let told =
      on_some_ring (slice_get plans ring) (λ p. take_reply p ring (parties_of now) count me.0.party.span) (NotYet tail)
      (λ e. (let u : NoSpan ≡ NotYet tail = e in cc)) me.2 in
      let early = take_early_tells told.0 ring (parties_of now) count me.0.party.span tail told.2 in
      earlier now i ring Take me.0 me.1 early.0 early.1 early.2 early.3

-- 3. Free rings, along a run

room_along : (plans : List RingPlan) (pool : ℕ) (actors : List Actor) (found : ℕ → Option (List Actor)) (events : List Event)
    → AllFitAny plans pool → IsRun plans pool actors events → Standing plans pool actors found → PutsFindRoom plans events
room_along plans pool actors found [] fits run s = tt
room_along plans pool actors found (e ∷ events) fits run s =
    let next = event_looks plans pool actors found e run.0 s.kept s.rule s.looks in (
      (λ ring how count room plan step reply there. by_free ring how count room plan step reply there plan.free refl),
      room_along plans pool (after actors e) (λ i. if is_room_of i e then Some actors else found i) events fits run.1
          record { kept = event_kept plans pool actors e fits run.0 s.kept; rule = next.0; looks = next.1 },
    )
  where
    by_free : (ring : ℕ) (how : How) (count room : ℕ) (plan : RingPlan) → e.step ≡ Reserve ring Put how count → e.reply ≡ NoRoom room
        → slice_get plans ring ≡ Some plan → (free : Bool) → plan.free ≡ free → free ≡ false
    by_free ring how count room plan step reply there false is = refl
    by_free ring how count room plan step reply there true is =
        absurd (never_no_room plans pool actors found s e.actor ring Put how count plan there room refl is ((fits ring plan there).free_rings is)
        (ap (reply_to plans pool actors e.actor) (sym step) ∙ (sym run.0 ∙ reply)))

pub puts_find_room : (plans : List RingPlan) (actors : ℕ) (gifts : List ℕ) (events : List Event) → IsPlan plans actors gifts
    → IsRun plans (length gifts) (opening actors gifts) events → PutsFindRoom plans events
puts_find_room plans actors gifts events plan run =
    room_along plans (length gifts) (opening actors gifts) (λ i. None) events plan.rings run (standing_first plans actors gifts plan)
