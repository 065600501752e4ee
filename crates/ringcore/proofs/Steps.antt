-- The machine's lists agree with the history after each step
use Rattle.std.proofs.Common.{ℕ, zero, suc, ◌+◌, ◌<◌, ◌≢◌, ◌≡◌, inl, inr, List, [], ◌∷◌, length, refl, ap, sym, subst, ◌∙◌, arith, true, false}
use Rattle.std.specs.Prelude.{slice_get, slice_set, slice_index_or, Some, None, if◌then◌else◌}
use Rattle.std.proofs.lemmas.List.{length-set, get_or-set_other, get_or-set_same}
use Rattle.geom.specs.declared.plan.Mode.{Mode}
use Rattle.geom.specs.declared.plan.Side.{Side}
use Rattle.geom.specs.declared.plan.Side.TheVariants.{Put, Take}
use Rattle.geom.specs.declared.plan.RingPlan.{RingPlan}
use Rattle.geom.specs.Plan.{mode_of}
use Rattle.ringcore_laws.specs.declared.contents.Item.{Item}
use Rattle.ringcore_laws.specs.declared.protocol.Span.{Span}
use Rattle.ringcore_laws.specs.declared.protocol.Reply.{Reply}
use Rattle.ringcore_laws.specs.declared.protocol.Reply.TheVariants.{Seen, Granted, Busy, NoSpan}
use Rattle.ringcore_laws.specs.declared.party.Party.{Party}
use Rattle.ringcore_laws.specs.Party.{is_on, with_open}
use Rattle.ringcore_laws.specs.Moves.{reserved_by}
use Rattle.ringcore_laws.specs.RingSide.{RingSide, side_of, span_count, span_end}
use Rattle.ringcore_laws.specs.Sound.{holds, moved}
use Rattle.ringcore_laws.specs.History.{Actor, tags, parties_of, after_look, after_room, after_reserve, with_tail}
use Rattle.ringcore_laws.proofs.Lists.{get_set, get_set_other}
use Rattle.ringcore_laws.proofs.SideLaws.{Reserves, reserves}
use Rattle.ringcore_laws.proofs.Laws.{on_own, off_ring, off_put, off_take, same_or_not, same_plan, same_queue}
use Rattle.ringcore_laws.proofs.HeadTailLaws.{IsNext}
use Rattle.ringcore_laws.proofs.HistoryLaws.{parties_set, parties_at, parties_length, parties_unchanged}
use Rattle.ringcore.specs.declared.ring.Words.{Words}
use Rattle.ringcore.specs.declared.ring.Ring.{Ring}
use Rattle.ringcore.specs.declared.member.Member.{Member}
use Rattle.ringcore.specs.Agree.{WordsAgree, MemberAgrees, RingAgrees, SpansAgree}
use Rattle.ringcore.specs.Changes.{member_looked, member_asked, member_tried, ring_tried, words_after}

-- 1. the actor that steps

pub looked_agrees : (a : Actor) (m : Member) (ring : ℕ) (side : Side) (r : Reply) → MemberAgrees a m
    → MemberAgrees (after_look a ring side r) (member_looked m ring side r)
looked_agrees a m ring side (Seen word) h = record { span = h.span; observed = refl }
looked_agrees a m ring side (Busy word) h = record { span = h.span; observed = refl }
looked_agrees a m ring side _ h = h

pub asked_agrees : (a : Actor) (m : Member) (r : Reply) → MemberAgrees a m → MemberAgrees (after_room a r) (member_asked m r)
asked_agrees a m (Seen tail) h = record { span = h.span; observed = ap (λ v. with_tail v tail) h.observed }
asked_agrees a m _ h = h

pub reserving_holds : (party : Party Item) (span : Span) (b : ℕ) → holds tags b (with_open party span) ≡ holds tags b party
unfolding holds moved
reserving_holds party span b = refl

pub tried_agrees : (a : Actor) (m : Member) (ring : ℕ) (side : Side) (r : Reply) → MemberAgrees a m
    → MemberAgrees (after_reserve a ring side r) (member_tried m ring side r)
tried_agrees a m ring side NoSpan h = h
tried_agrees a m ring side (Granted start count left) h = record { span = refl; observed = refl }
tried_agrees a m ring side _ h = record { span = h.span; observed = refl }

-- 2. all lists, when one actor and the rings changed

pub lift : (plans : List RingPlan) (rings new : List Ring) (members : List Member) (actors : List Actor) (i : ℕ) (a : Actor) (m : Member)
    → SpansAgree plans rings members actors → i < length actors → MemberAgrees a m → length new ≡ length plans
    → ((r : ℕ) (plan : RingPlan) (ring : Ring) → slice_get plans r ≡ Some plan → slice_get new r ≡ Some ring
    → RingAgrees plan (parties_of (slice_set actors i a)) r ring)
    → SpansAgree plans new (slice_set members i m) (slice_set actors i a)
lift plans rings new members actors i a m h lt own count ok = record {
  member_count = length-set members i m ∙ (h.member_count ∙ sym (length-set actors i a));
  ring_count = count;
  each_member = λ j d e lt'. elim (same_or_not j i) [
    | inl same ↦
        let here : slice_index_or (slice_set actors i a) j d ≡ a =
        ap (λ (v : ℕ). slice_index_or (slice_set actors i a) v d) same ∙ get_or-set_same actors i a d lt in
        let there : slice_index_or (slice_set members i m) j e ≡ m =
        ap (λ (v : ℕ). slice_index_or (slice_set members i m) v e) same ∙ get_or-set_same members i m e (omega (arith, h.member_count)) in
        subst (λ (v : Actor). MemberAgrees v (slice_index_or (slice_set members i m) j e)) (sym here) (subst (λ (v : Member). MemberAgrees a v) (sym there) own)
    | inr apart ↦
        subst (λ (v : Actor). MemberAgrees v (slice_index_or (slice_set members i m) j e)) (sym (get_or-set_other actors i j a d apart))
        (subst (λ (v : Member). MemberAgrees (slice_index_or actors j d) v) (sym (get_or-set_other members i j m e apart))
        (h.each_member j d e (subst (λ (v : ℕ). j < v) (length-set actors i a) lt')))
  ];
  each_ring = ok;
}

-- an actor whose spans and buffers are unchanged leaves the rings as they are
pub lift_same : (plans : List RingPlan) (rings : List Ring) (members : List Member) (actors : List Actor) (i : ℕ) (d a : Actor) (m : Member)
    → SpansAgree plans rings members actors → i < length actors → MemberAgrees a m → a.party ≡ (slice_index_or actors i d).party
    → SpansAgree plans rings (slice_set members i m) (slice_set actors i a)
lift_same plans rings members actors i d a m h lt own same =
    lift plans rings rings members actors i a m h lt own h.ring_count
    (λ r plan ring hp hr. subst (λ (v : List (Party Item)). RingAgrees plan v r ring) (sym (parties_unchanged actors i d a lt same))
    (h.each_ring r plan ring hp hr))

-- 3. the rings after a Reserve

pub set_same : {X : Type 0} (xs : List X) (i : ℕ) (x : X) → slice_get xs i ≡ Some x → slice_set xs i x ≡ xs
set_same [] i x h = refl
set_same (y ∷ ys) zero x h = ap (λ v. v ∷ ys) (sym (same_plan h))
set_same (y ∷ ys) (suc i) x h = ap (λ v. y ∷ v) (set_same ys i x h)

-- a side after a reservation after all others
words_reserved : (mode : Mode) (before after : RingSide Item) (ring : ℕ) (side : Side) (span : Span) (w : Words) (left : ℕ)
    → is_on span.ring span.side ring side ≡ true → Reserves before after ring side span → IsNext mode before span.start
    → WordsAgree mode before w → WordsAgree mode after (words_after w (Granted span.start span.count left))
words_reserved mode before after ring side span w left on r next h =
    let end : span_end ring side (Some span) ≡ span.start + span.count = ap (λ v. if v then span.start + span.count else 0) on in
    let count : span_count ring side (Some span) ≡ span.count = ap (λ v. if v then span.count else 0) on in
    record {
      tail = h.tail ∙ sym r.len;
      multi = λ m. omega (arith, next.multi m, r.reach, end);
      hts = λ m. omega (arith, (next.hts m).0, (next.hts m).1, r.len, r.open_count, count);
    }

-- a side that the span isn't on
words_kept : (mode : Mode) (before after : RingSide Item) (ring : ℕ) (side : Side) (span : Span) (w : Words) → is_on span.ring span.side ring side ≡ false
    → Reserves before after ring side span → WordsAgree mode before w → WordsAgree mode after w
words_kept mode before after ring side span w off r h =
    let end : span_end ring side (Some span) ≡ 0 = ap (λ v. if v then span.start + span.count else 0) off in
    let count : span_count ring side (Some span) ≡ 0 = ap (λ v. if v then span.count else 0) off in
    record { tail = h.tail ∙ sym r.len; multi = λ m. omega (arith, h.multi m, r.reach, end); hts = λ m. omega (arith, h.hts m, r.len, r.open_count, count) }

ring_reserved_agrees : (plan : RingPlan) (parties : List (Party Item)) (i : ℕ) (d : Party Item) (ring : ℕ) (side : Side) (start count left : ℕ) (x : Ring)
    → i < length parties → (slice_index_or parties i d).span ≡ None
    → IsNext (mode_of plan side) (side_of parties ring side) start → RingAgrees plan parties ring x
    → RingAgrees plan (reserved_by parties i d record { ring = ring; side = side; start = start; count = count }) ring
    (ring_tried x side (Granted start count left))
ring_reserved_agrees plan parties i d ring Put start count left x lt idle next h =
    let span : Span = record { ring = ring; side = Put; start = start; count = count } in
    record {
      put = words_reserved plan.put (side_of parties ring Put) (side_of (reserved_by parties i d span) ring Put) ring Put span x.put left (on_own ring Put)
          (reserves parties i d span ring Put lt idle) next h.put;
      take = words_kept plan.take (side_of parties ring Take) (side_of (reserved_by parties i d span) ring Take) ring Take span x.take (off_take ring ring)
          (reserves parties i d span ring Take lt idle) h.take;
      queue = h.queue ∙ sym (same_queue tags parties (reserved_by parties i d span) ring (λ s. (reserves parties i d span ring s lt idle).items_at)
          (λ s. (reserves parties i d span ring s lt idle).len));
      capacity = h.capacity;
    }
ring_reserved_agrees plan parties i d ring Take start count left x lt idle next h =
    let span : Span = record { ring = ring; side = Take; start = start; count = count } in
    record {
      put = words_kept plan.put (side_of parties ring Put) (side_of (reserved_by parties i d span) ring Put) ring Put span x.put (off_put ring ring)
          (reserves parties i d span ring Put lt idle) h.put;
      take = words_reserved plan.take (side_of parties ring Take) (side_of (reserved_by parties i d span) ring Take) ring Take span x.take left
          (on_own ring Take) (reserves parties i d span ring Take lt idle) next h.take;
      queue = h.queue ∙ sym (same_queue tags parties (reserved_by parties i d span) ring (λ s. (reserves parties i d span ring s lt idle).items_at)
          (λ s. (reserves parties i d span ring s lt idle).len));
      capacity = h.capacity;
    }

-- a ring that the span isn't on
other_ring_agrees : (plan : RingPlan) (parties : List (Party Item)) (i : ℕ) (d : Party Item) (span : Span) (r : ℕ) (x : Ring) → i < length parties
    → (slice_index_or parties i d).span ≡ None → r ≢ span.ring
    → RingAgrees plan parties r x → RingAgrees plan (reserved_by parties i d span) r x
other_ring_agrees plan parties i d span r x lt idle apart h = record {
  put = words_kept plan.put (side_of parties r Put) (side_of (reserved_by parties i d span) r Put) r Put span x.put (off_ring span.ring r span.side Put apart)
      (reserves parties i d span r Put lt idle) h.put;
  take = words_kept plan.take (side_of parties r Take) (side_of (reserved_by parties i d span) r Take) r Take span x.take
      (off_ring span.ring r span.side Take apart) (reserves parties i d span r Take lt idle) h.take;
  queue = h.queue ∙ sym (same_queue tags parties (reserved_by parties i d span) r (λ s. (reserves parties i d span r s lt idle).items_at)
      (λ s. (reserves parties i d span r s lt idle).len));
  capacity = h.capacity;
}

-- all lists after this reply to a Reserve
pub reserve_agrees : (plans : List RingPlan) (rings : List Ring) (members : List Member) (actors : List Actor) (i : ℕ) (a : Actor) (m : Member) (ring : ℕ)
    (side : Side) (plan : RingPlan) (x : Ring) (reply : Reply)
    → SpansAgree plans rings members actors → i < length actors → ((d : Actor) → slice_index_or actors i d ≡ a) → MemberAgrees a m
    → slice_get plans ring ≡ Some plan → slice_get rings ring ≡ Some x
    → ((start count left : ℕ) → reply ≡ Granted start count left → IsNext (mode_of plan side) (side_of (parties_of actors) ring side) start
    × (a.party.span ≡ None))
    → SpansAgree plans (slice_set rings ring (ring_tried x side reply)) (slice_set members i (member_tried m ring side reply))
    (slice_set actors i (after_reserve a ring side reply))
reserve_agrees plans rings members actors i a m ring side plan x (Granted start count left) h lt at own hp hr next =
    lift plans rings (slice_set rings ring (ring_tried x side (Granted start count left))) members actors i b
    (member_tried m ring side (Granted start count left)) h lt
    (tried_agrees a m ring side (Granted start count left) own) (length-set rings ring (ring_tried x side (Granted start count left)) ∙ h.ring_count)
    (λ r plan' y hp' hy. subst (λ (v : List (Party Item)). RingAgrees plan' v r y) (sym is_new) (elim (same_or_not r ring) [
      | inl same ↦
          let ep : plan ≡ plan' = same_plan (sym hp ∙ (ap (slice_get plans) (sym same) ∙ hp')) in
          let ey : ring_tried x side (Granted start count left) ≡ y =
          get_set rings ring (ring_tried x side (Granted start count left)) y
          (ap (slice_get (slice_set rings ring (ring_tried x side (Granted start count left)))) (sym same) ∙ hy) in
          subst (λ (v : ℕ). RingAgrees plan' new v y) (sym same)
          (subst (λ (v : RingPlan). RingAgrees v new ring y) ep (subst (λ (v : Ring). RingAgrees plan new ring v) ey
          (ring_reserved_agrees plan parties i a.party ring side start count left x lt' idle (next start count left refl).0 (h.each_ring ring plan x hp hr))))
      | inr apart ↦
          other_ring_agrees plan' parties i a.party span r y lt' idle apart
          (h.each_ring r plan' y hp' (sym (get_set_other rings ring r (ring_tried x side (Granted start count left)) apart) ∙ hy))
    ]))
  where
    parties : List (Party Item)
    parties = parties_of actors

    span : Span
    span = record { ring = ring; side = side; start = start; count = count }

    b : Actor
    b = record { party = with_open a.party span; observed = None; cached = a.cached }

    here : slice_index_or parties i a.party ≡ a.party
    here = parties_at actors i a lt ∙ ap (λ (v : Actor). v.party) (at a)

    lt' : i < length parties
    lt' = omega (arith, parties_length actors)

    idle : (slice_index_or parties i a.party).span ≡ None
    idle = ap (λ (v : Party Item). v.span) here ∙ (next start count left refl).1

    new : List (Party Item)
    new = reserved_by parties i a.party span

    is_new : parties_of (slice_set actors i b) ≡ new
    is_new = parties_set actors i b ∙ ap (λ (v : Party Item). slice_set parties i (with_open v span)) (sym here)
reserve_agrees plans rings members actors i a m ring Put plan x reply h lt at own hp hr next =
    subst (λ (v : List Ring). SpansAgree plans v (slice_set members i (member_tried m ring Put reply)) (slice_set actors i (after_reserve a ring Put reply)))
    (sym (set_same rings ring x hr))
    (lift_same plans rings members actors i a (after_reserve a ring Put reply) (member_tried m ring Put reply) h lt (tried_agrees a m ring Put reply own)
    (sym (ap (λ (v : Actor). v.party) (at a))))
reserve_agrees plans rings members actors i a m ring Take plan x reply h lt at own hp hr next =
    subst (λ (v : List Ring). SpansAgree plans v (slice_set members i (member_tried m ring Take reply)) (slice_set actors i (after_reserve a ring Take reply)))
    (sym (set_same rings ring x hr))
    (lift_same plans rings members actors i a (after_reserve a ring Take reply) (member_tried m ring Take reply) h lt (tried_agrees a m ring Take reply own)
    (sym (ap (λ (v : Actor). v.party) (at a))))
