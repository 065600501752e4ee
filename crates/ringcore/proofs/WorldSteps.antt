-- One step of the machine: its reply is the one to the step, and its lists agree after it
use Rattle.std.proofs.Common.{ℕ, ◌<◌, ◌≡◌, List, length, refl, ap, sym, subst, ◌∙◌, arith, true, false, Bool}
use Rattle.std.specs.Prelude.{slice_get, slice_set, slice_index_or, Option, Some, is_some, ◌&&◌, ◌==◌, ◌^◌, if◌then◌else◌}
use Rattle.std.proofs.lemmas.Option.{get_or_from_slice_get}
use Rattle.geom.specs.declared.plan.Side.{Side}
use Rattle.geom.specs.declared.plan.Side.TheVariants.{Put, Take}
use Rattle.geom.specs.declared.plan.How.{How}
use Rattle.geom.specs.declared.plan.RingPlan.{RingPlan}
use Rattle.geom.specs.Plan.{mode_of}
use Rattle.geom.specs.Fit.{AllFitAny}
use Rattle.geom.proofs.Words.{last_small}
use Rattle.ringcore_laws.specs.declared.contents.Item.{Item}
use Rattle.ringcore_laws.specs.declared.protocol.Step.{Step}
use Rattle.ringcore_laws.specs.declared.protocol.Step.TheVariants.{Look, Room, Reserve, SettlePut, SettleTake, Stash, Unstash}
use Rattle.ringcore_laws.specs.declared.protocol.Reply.{Reply}
use Rattle.ringcore_laws.specs.declared.protocol.Reply.TheVariants.{Seen, Busy, Granted, NoSpan, NotYours}
use Rattle.ringcore_laws.specs.RingSide.{RingSide, side_of}
use Rattle.ringcore_laws.specs.Sound.{holds}
use Rattle.ringcore_laws.specs.Invariant.{Invariant}
use Rattle.ringcore_laws.specs.HeadTailRule.{RuledSide}
use Rattle.ringcore_laws.specs.History.{Actor, tags, parties_of, reply_to, reply_to_one, actor_reply, on_ring, after, one_stepped, after_step, look_reply}
use Rattle.ringcore_laws.specs.History.{room_reply, reserve_reply, reserve_seen, seen_on, put_reply, take_reply, other_side, buffers_of_actor, is_held}
use Rattle.ringcore_laws.specs.History.{is_cached}
use Rattle.ringcore_laws.specs.declared.party.Party.{Party}
use Rattle.ringcore_laws.specs.Place.{positions_from}
use Rattle.std.proofs.lemmas.List.{length-set}
use Rattle.ringcore_laws.proofs.Laws.{element}
use Rattle.ringcore_laws.proofs.HistoryLaws.{granted_next}
use Rattle.ringcore.specs.declared.ring.Ring.{Ring}
use Rattle.ringcore.specs.declared.member.Member.{Member}
use Rattle.ringcore_laws.specs.declared.protocol.Place.{Place}
use Rattle.ringcore_laws.specs.declared.protocol.Place.TheVariants.{Held, Cached}
use Rattle.ringcore.specs.Agree.{EntriesAgree, HandAgrees, WordsAgree, MemberAgrees, ListsAgree, SpansAgree}
use Rattle.ringcore.specs.Changes.{side_words, member_looked, member_asked, member_tried, ring_tried, PutResult, TakeResult}
use Rattle.ringcore.specs.Replies.{TailFits, put_answer, take_answer}
use Rattle.ringcore.specs.Entries.{entry, is_cached_at, is_held_at}
use Rattle.ringcore.proofs.Steps.{looked_agrees, asked_agrees, lift_same, reserve_agrees, reserving_holds, set_same}
use Rattle.ringcore.proofs.SettleSteps.{put_answer_is, take_answer_is, put_agrees, take_agrees, held_at_is, cached_at_is}
use Rattle.ringcore.proofs.HandSteps.{each_queued, entries_kept, entries_stashed, entries_unstashed}

module _ (plans : List RingPlan) (pool : ℕ) (rings : List Ring) (places : List Place) (members : List Member) (actors : List Actor) (i : ℕ)
    (fits : AllFitAny plans pool)
    (k : Invariant plans pool actors) (agree : ListsAgree plans pool rings places members actors) (within : i < length members) where
  abbrev Goes : Step → Reply → List Ring → List Place → List Member → Type 0
  Goes step reply new_rings new_places new_members =
      (reply ≡ reply_to plans pool actors i step) × ListsAgree plans pool new_rings new_places new_members
      (after actors record { actor = i; step = step; reply = reply })

  pub lt : i < length actors
  lt = omega (arith, agree.spans.member_count)

  pub me : (a : Actor) × (slice_get actors i ≡ Some a)
  me = element actors i lt

  mine : (m : Member) × (slice_get members i ≡ Some m)
  mine = element members i within

  at : (d : Actor) → slice_index_or actors i d ≡ me.0
  at d = get_or_from_slice_get actors i me.0 d me.1

  own : MemberAgrees me.0 mine.0
  own = subst (λ (v : Actor). MemberAgrees v mine.0) (at me.0)
      (subst (λ (v : Member). MemberAgrees (slice_index_or actors i me.0) v) (get_or_from_slice_get members i mine.0 mine.0 mine.1)
      (agree.spans.each_member i me.0 mine.0 lt))

  finish : (step : Step) (reply : Reply) (new_rings : List Ring) (new_places : List Place) (new_members : List Member) → reply ≡ actor_reply plans pool
      (parties_of actors) me.0 step
      → ListsAgree plans pool new_rings new_places new_members (slice_set actors i (after_step me.0 step reply))
      → Goes step reply new_rings new_places new_members
  unfolding reply_to after
  finish step reply new_rings new_places new_members is agrees = (
    is ∙ sym (ap (λ (v : Option Actor). reply_to_one plans pool (parties_of actors) v step) me.1),
    subst (λ (v : Option Actor). ListsAgree plans pool new_rings new_places new_members (one_stepped actors i v step reply)) (sym me.1) agrees,
  )

  hand : HandAgrees pool places i me.0 mine.0
  hand = agree.entries.each_hand i me.0 mine.0 me.1 mine.1

  -- the entries, if the actor's buffers and marks are unchanged
  kept : (b : Actor) (n : Member) → ((c : ℕ) → holds tags c b.party ≡ holds tags c me.0.party) → b.cached ≡ me.0.cached → n.number ≡ mine.0.number
      → n.count ≡ mine.0.count → EntriesAgree pool rings places (slice_set members i n) (slice_set actors i b)
  kept b n held cached number count =
      entries_kept pool rings rings places members actors i me.0 b mine.0 n agree.entries me.1 mine.1 held cached number count refl agree.entries.queued

  pub look_goes : (ring : ℕ) (side : Side) (reply : Reply) (new_members : List Member) → ring < length plans
      → ((m : Member) → slice_get members i ≡ Some m → new_members ≡ slice_set members i (member_looked m ring side reply))
      → ((m : Member) (plan : RingPlan) (r : Ring) → slice_get members i ≡ Some m → slice_get plans ring ≡ Some plan → slice_get rings ring ≡ Some r
      → (l : RingSide Item) (a : Actor) → RuledSide plan.geometry (mode_of plan side) l → WordsAgree (mode_of plan side) l (side_words r side) → a.party.span ≡ m.span
      → reply ≡ look_reply plan.geometry (mode_of plan side) l a)
      → Goes (Look ring side) reply rings places new_members
  look_goes ring side reply new_members in_plans member is =
      finish (Look ring side) reply rings places new_members
      (is mine.0 plan.0 x.0 mine.1 plan.1 x.1 (side_of (parties_of actors) ring side) me.0 (k.ruled.sides ring side plan.0 plan.1) (words side) (sym own.span)
      ∙ sym (ap (λ o. on_ring o (λ p. look_reply p.geometry (mode_of p side) (side_of (parties_of actors) ring side) me.0)) plan.1))
      (subst (λ (v : List Member). ListsAgree plans pool rings places v (slice_set actors i (after_step me.0 (Look ring side) reply)))
      (sym (member mine.0 mine.1))
      record {
        spans = lift_same plans rings members actors i me.0 (after_step me.0 (Look ring side) reply) (member_looked mine.0 ring side reply) agree.spans lt
            (looked_agrees me.0 mine.0 ring side reply own) (looked_party reply ∙ sym (ap (λ (v : Actor). v.party) (at me.0)));
        entries = entries reply;
      })
    where
      plan : (p : RingPlan) × (slice_get plans ring ≡ Some p)
      plan = element plans ring in_plans

      x : (r : Ring) × (slice_get rings ring ≡ Some r)
      x = element rings ring (omega (arith, agree.spans.ring_count))

      words : (v : Side) → WordsAgree (mode_of plan.0 v) (side_of (parties_of actors) ring v) (side_words x.0 v)
      words Put = (agree.spans.each_ring ring plan.0 x.0 plan.1 x.1).put
      words Take = (agree.spans.each_ring ring plan.0 x.0 plan.1 x.1).take

      looked_party : (r : Reply) → (after_step me.0 (Look ring side) r).party ≡ me.0.party
      looked_party (Seen w) = refl
      looked_party (Busy w) = refl
      looked_party _ = refl

      entries : (r : Reply) → EntriesAgree pool rings places (slice_set members i (member_looked mine.0 ring side r))
          (slice_set actors i (after_step me.0 (Look ring side) r))
      entries (Seen w) = kept (after_step me.0 (Look ring side) (Seen w)) (member_looked mine.0 ring side (Seen w)) (λ c. refl) refl refl refl
      entries (Busy w) = kept (after_step me.0 (Look ring side) (Busy w)) (member_looked mine.0 ring side (Busy w)) (λ c. refl) refl refl refl
      entries _ = kept me.0 mine.0 (λ c. refl) refl refl refl

  pub room_goes : (ring : ℕ) (side : Side) (reply : Reply) (new_members : List Member) → ring < length plans
      → ((m : Member) → slice_get members i ≡ Some m → new_members ≡ slice_set members i (member_asked m reply))
      → ((m : Member) → slice_get members i ≡ Some m → (r : Ring) → slice_get rings ring ≡ Some r → (l : RingSide Item) (a : Actor)
      → l.len ≡ (side_words r (other_side side)).tail → a.party.span ≡ m.span → a.observed ≡ m.observed → reply ≡ room_reply ring side l a)
      → Goes (Room ring side) reply rings places new_members
  room_goes ring side reply new_members in_plans member is =
      finish (Room ring side) reply rings places new_members
      (is mine.0 mine.1 x.0 x.1 (side_of (parties_of actors) ring (other_side side)) me.0 (tail side) (sym own.span) (sym own.observed)
      ∙ sym (ap (λ o. on_ring o (λ p. room_reply ring side (side_of (parties_of actors) ring (other_side side)) me.0)) plan.1))
      (subst (λ (v : List Member). ListsAgree plans pool rings places v (slice_set actors i (after_step me.0 (Room ring side) reply)))
      (sym (member mine.0 mine.1))
      record {
        spans = lift_same plans rings members actors i me.0 (after_step me.0 (Room ring side) reply) (member_asked mine.0 reply) agree.spans lt
            (asked_agrees me.0 mine.0 reply own) (asked_party reply ∙ sym (ap (λ (v : Actor). v.party) (at me.0)));
        entries = entries reply;
      })
    where
      plan : (p : RingPlan) × (slice_get plans ring ≡ Some p)
      plan = element plans ring in_plans

      x : (r : Ring) × (slice_get rings ring ≡ Some r)
      x = element rings ring (omega (arith, agree.spans.ring_count))

      tail : (v : Side) → (side_of (parties_of actors) ring (other_side v)).len ≡ (side_words x.0 (other_side v)).tail
      tail Put = sym (agree.spans.each_ring ring plan.0 x.0 plan.1 x.1).take.tail
      tail Take = sym (agree.spans.each_ring ring plan.0 x.0 plan.1 x.1).put.tail

      asked_party : (r : Reply) → (after_step me.0 (Room ring side) r).party ≡ me.0.party
      asked_party (Seen w) = refl
      asked_party _ = refl

      entries : (r : Reply) → EntriesAgree pool rings places (slice_set members i (member_asked mine.0 r))
          (slice_set actors i (after_step me.0 (Room ring side) r))
      entries (Seen w) = kept (after_step me.0 (Room ring side) (Seen w)) (member_asked mine.0 (Seen w)) (λ c. refl) refl refl refl
      entries _ = kept me.0 mine.0 (λ c. refl) refl refl refl

  pub reserve_goes : (ring : ℕ) (side : Side) (how : How) (count : ℕ) (reply : Reply) (new_rings : List Ring) (new_members : List Member) → ring < length plans
      → ((m : Member) → slice_get members i ≡ Some m → new_members ≡ slice_set members i (member_tried m ring side reply))
      → ((r : Ring) → slice_get rings ring ≡ Some r → new_rings ≡ slice_set rings ring (ring_tried r side reply))
      → ((m : Member) (plan : RingPlan) (r : Ring) → slice_get members i ≡ Some m → slice_get plans ring ≡ Some plan → slice_get rings ring ≡ Some r
      → (l : RingSide Item) → RuledSide plan.geometry (mode_of plan side) l → WordsAgree (mode_of plan side) l (side_words r side) → TailFits plan m.observed
      → reply ≡ (if is_some m.span then NoSpan else reserve_seen plan side how count l m.count (seen_on ring side m.observed)))
      → Goes (Reserve ring side how count) reply new_rings places new_members
  reserve_goes ring side how count reply new_rings new_members in_plans member rung is =
      finish (Reserve ring side how count) reply new_rings places new_members
      (answer ∙ sym (ap (λ o. on_ring o (λ p. reserve_reply p pool ring side how count l me.0)) plan.1))
      (subst (λ (v : List Member). ListsAgree plans pool new_rings places v (slice_set actors i (after_step me.0 (Reserve ring side how count) reply)))
      (sym (member mine.0 mine.1))
      (subst (λ (v : List Ring). ListsAgree plans pool v places (slice_set members i (member_tried mine.0 ring side reply))
      (slice_set actors i (after_step me.0 (Reserve ring side how count) reply))) (sym (rung x.0 x.1))
      record {
        spans = reserve_agrees plans rings members actors i me.0 mine.0 ring side plan.0 x.0 reply agree.spans lt at own plan.1 x.1
            (λ start many left h. granted_next plans pool actors i me.0 lt at k ring side how count plan.0 plan.1 start many left (sym answer ∙ h));
        entries = entries_kept pool rings (slice_set rings ring (ring_tried x.0 side reply)) places members actors i me.0
            (after_step me.0 (Reserve ring side how count) reply) mine.0 (member_tried mine.0 ring side reply) agree.entries me.1 mine.1 (held reply)
            (cached reply) (number reply) (counted reply) (length-set rings ring (ring_tried x.0 side reply))
            (each_queued rings ring x.0 (ring_tried x.0 side reply) places places x.1 agree.entries.queued
            (λ c. ap (λ (v : ℕ). positions_from c v (ring_tried x.0 side reply).queue.items) (tried_tail side reply)
            ∙ (ap (positions_from c x.0.take.tail) (tried_queue side reply) ∙ agree.entries.queued ring x.0 x.1 c)) (λ r c apart. refl));
      }))
    where
      l : RingSide Item
      l = side_of (parties_of actors) ring side

      plan : (p : RingPlan) × (slice_get plans ring ≡ Some p)
      plan = element plans ring in_plans

      x : (r : Ring) × (slice_get rings ring ≡ Some r)
      x = element rings ring (omega (arith, agree.spans.ring_count))

      words : (v : Side) → WordsAgree (mode_of plan.0 v) (side_of (parties_of actors) ring v) (side_words x.0 v)
      words Put = (agree.spans.each_ring ring plan.0 x.0 plan.1 x.1).put
      words Take = (agree.spans.each_ring ring plan.0 x.0 plan.1 x.1).take

      tail_fits : TailFits plan.0 mine.0.observed
      tail_fits s t seen tail =
          let look = k.observations i me.0 s lt (ap (λ (v : Actor). v.observed) (at me.0) ∙ (sym own.observed ∙ seen)) in
          let there = element plans s.ring look.known in
          let bound = k.ruled.sides s.ring (other_side s.side) there.0 there.1 in
          omega (arith, look.tail_seen t tail, bound.behind, bound.last, last_small there.0.geometry (fits s.ring there.0 there.1).extent, (fits ring plan.0 plan.1).extent.small, (fits ring plan.0 plan.1).extent.spare)

      had : mine.0.count ≡ buffers_of_actor pool me.0
      had = hand.count

      held : (r : Reply) (c : ℕ) → holds tags c (after_step me.0 (Reserve ring side how count) r).party ≡ holds tags c me.0.party
      held NoSpan c = refl
      held (Granted start many left) c = reserving_holds me.0.party record { ring = ring; side = side; start = start; count = many } c
      held _ c = refl

      cached : (r : Reply) → (after_step me.0 (Reserve ring side how count) r).cached ≡ me.0.cached
      cached NoSpan = refl
      cached (Granted start many left) = refl
      cached _ = refl

      number : (r : Reply) → (member_tried mine.0 ring side r).number ≡ mine.0.number
      number NoSpan = refl
      number (Granted start many left) = refl
      number _ = refl

      counted : (r : Reply) → (member_tried mine.0 ring side r).count ≡ mine.0.count
      counted NoSpan = refl
      counted (Granted start many left) = refl
      counted _ = refl

      tried_tail : (v : Side) (r : Reply) → (ring_tried x.0 v r).take.tail ≡ x.0.take.tail
      tried_tail Put r = refl
      tried_tail Take (Granted start many left) = refl
      tried_tail Take _ = refl

      tried_queue : (v : Side) (r : Reply) → (ring_tried x.0 v r).queue.items ≡ x.0.queue.items
      tried_queue Put r = refl
      tried_queue Take r = refl

      answer : reply ≡ reserve_reply plan.0 pool ring side how count l me.0
      answer =
          is mine.0 plan.0 x.0 mine.1 plan.1 x.1 l (k.ruled.sides ring side plan.0 plan.1) (words side) tail_fits
          ∙ (ap (λ v. if is_some v then NoSpan else reserve_seen plan.0 side how count l mine.0.count (seen_on ring side mine.0.observed)) own.span
          ∙ (ap (λ v. if is_some me.0.party.span then NoSpan else reserve_seen plan.0 side how count l v (seen_on ring side mine.0.observed)) had
          ∙ ap (λ v. if is_some me.0.party.span then NoSpan else reserve_seen plan.0 side how count l (buffers_of_actor pool me.0) (seen_on ring side v))
          own.observed))

  pub put_goes : (ring : ℕ) (items : List Item) (reply : Reply) (new_rings : List Ring) (new_places : List Place) (new_members : List Member)
      → length places < 2 ^ 64 → ring < length plans
      → ((m : Member) (plan : RingPlan) (r : Ring) → slice_get members i ≡ Some m → slice_get plans ring ≡ Some plan → slice_get rings ring ≡ Some r
      → reply ≡ put_answer plan ring r.put.tail m.number places items m.span)
      → ((m : Member) (plan : RingPlan) (r : Ring) → slice_get members i ≡ Some m → slice_get plans ring ≡ Some plan → slice_get rings ring ≡ Some r
      → (n : Member) × (y : Ring) × (new_members ≡ slice_set members i n) × (new_rings ≡ slice_set rings ring y) × PutResult plan ring m n r y places
      new_places items reply)
      → Goes (SettlePut ring items) reply new_rings new_places new_members
  put_goes ring items reply new_rings new_places new_members small in_plans is did =
      finish (SettlePut ring items) reply new_rings new_places new_members
      (answer ∙ sym (ap (λ o. on_ring o (λ p. put_reply p ring (parties_of actors) me.0 items me.0.party.span)) plan.1))
      (subst (λ (v : List Member). ListsAgree plans pool new_rings new_places v (slice_set actors i (after_step me.0 (SettlePut ring items) reply)))
      (sym done.2)
      (subst (λ (v : List Ring). ListsAgree plans pool v new_places (slice_set members i done.0)
      (slice_set actors i (after_step me.0 (SettlePut ring items) reply)))
      (sym done.3)
      record { spans = both.0; entries = both.1 }))
    where
      plan : (p : RingPlan) × (slice_get plans ring ≡ Some p)
      plan = element plans ring in_plans

      x : (r : Ring) × (slice_get rings ring ≡ Some r)
      x = element rings ring (omega (arith, agree.spans.ring_count))

      done : (n : Member) × (y : Ring) × (new_members ≡ slice_set members i n) × (new_rings ≡ slice_set rings ring y)
          × PutResult plan.0 ring mine.0 n x.0 y places new_places items reply
      done = did mine.0 plan.0 x.0 mine.1 plan.1 x.1

      answer : reply ≡ put_reply plan.0 ring (parties_of actors) me.0 items me.0.party.span
      answer = is mine.0 plan.0 x.0 mine.1 plan.1 x.1 ∙ put_answer_is plans pool actors i me.0 lt at k mine.0 own ring x.0.put.tail plan.0 items places
          hand plan.1
          (agree.spans.each_ring ring plan.0 x.0 plan.1 x.1).put.tail

      both : SpansAgree plans (slice_set rings ring done.1) (slice_set members i done.0) (slice_set actors i (after_step me.0 (SettlePut ring items) reply))
          × EntriesAgree pool (slice_set rings ring done.1) new_places (slice_set members i done.0)
          (slice_set actors i (after_step me.0 (SettlePut ring items) reply))
      both =
          put_agrees plans pool rings members actors i me.0 mine.0 done.0 ring plan.0 x.0 done.1 agree.spans lt at k own plan.1 x.1 places agree.entries me.1
          mine.1 small items reply new_places (last_small plan.0.geometry (fits ring plan.0 plan.1).extent) answer done.4

  pub take_goes : (ring count : ℕ) (reply : Reply) (new_rings : List Ring) (new_places : List Place) (new_members : List Member)
      → length places < 2 ^ 64 → ring < length plans
      → ((m : Member) (plan : RingPlan) (r : Ring) → slice_get members i ≡ Some m → slice_get plans ring ≡ Some plan → slice_get rings ring ≡ Some r
      → reply ≡ take_answer plan ring r.take.tail r.queue.items count m.span)
      → ((m : Member) (plan : RingPlan) (r : Ring) → slice_get members i ≡ Some m → slice_get plans ring ≡ Some plan → slice_get rings ring ≡ Some r
      → (n : Member) × (y : Ring) × (new_members ≡ slice_set members i n) × (new_rings ≡ slice_set rings ring y) × TakeResult plan m n r y places
      new_places count reply)
      → Goes (SettleTake ring count) reply new_rings new_places new_members
  take_goes ring count reply new_rings new_places new_members small in_plans is did =
      finish (SettleTake ring count) reply new_rings new_places new_members
      (answer ∙ sym (ap (λ o. on_ring o (λ p. take_reply p ring (parties_of actors) count me.0.party.span)) plan.1))
      (subst (λ (v : List Member). ListsAgree plans pool new_rings new_places v (slice_set actors i (after_step me.0 (SettleTake ring count) reply)))
      (sym done.2)
      (subst (λ (v : List Ring). ListsAgree plans pool v new_places (slice_set members i done.0)
      (slice_set actors i (after_step me.0 (SettleTake ring count) reply)))
      (sym done.3)
      record { spans = both.0; entries = both.1 }))
    where
      plan : (p : RingPlan) × (slice_get plans ring ≡ Some p)
      plan = element plans ring in_plans

      x : (r : Ring) × (slice_get rings ring ≡ Some r)
      x = element rings ring (omega (arith, agree.spans.ring_count))

      done : (n : Member) × (y : Ring) × (new_members ≡ slice_set members i n) × (new_rings ≡ slice_set rings ring y)
          × TakeResult plan.0 mine.0 n x.0 y places new_places count reply
      done = did mine.0 plan.0 x.0 mine.1 plan.1 x.1

      answer : reply ≡ take_reply plan.0 ring (parties_of actors) count me.0.party.span
      answer = is mine.0 plan.0 x.0 mine.1 plan.1 x.1 ∙ take_answer_is plans pool actors i me.0 lt at k mine.0 own ring x.0.take.tail count plan.0
          x.0.queue.items plan.1 (agree.spans.each_ring ring plan.0 x.0 plan.1 x.1).take.tail (agree.spans.each_ring ring plan.0 x.0 plan.1 x.1).queue

      both : SpansAgree plans (slice_set rings ring done.1) (slice_set members i done.0) (slice_set actors i (after_step me.0 (SettleTake ring count) reply))
          × EntriesAgree pool (slice_set rings ring done.1) new_places (slice_set members i done.0)
          (slice_set actors i (after_step me.0 (SettleTake ring count) reply))
      both =
          take_agrees plans pool rings members actors i me.0 mine.0 done.0 ring plan.0 x.0 done.1 agree.spans lt at k own plan.1 x.1 places agree.entries me.1
          mine.1 small count reply new_places (last_small plan.0.geometry (fits ring plan.0 plan.1).extent) answer done.4

  -- a local step, which leaves rings and members as they are
  local : (step : Step) (reply : Reply) (new_places : List Place) → reply ≡ actor_reply plans pool (parties_of actors) me.0 step
      → (after_step me.0 step reply).party ≡ me.0.party → (after_step me.0 step reply).observed ≡ me.0.observed
      → EntriesAgree pool rings new_places (slice_set members i mine.0) (slice_set actors i (after_step me.0 step reply))
      → Goes step reply rings new_places members
  local step reply new_places is party observed entries =
      let same = set_same members i mine.0 mine.1 in
      finish step reply rings new_places members is record {
        spans = subst (λ (v : List Member). SpansAgree plans rings v (slice_set actors i (after_step me.0 step reply))) same
            (lift_same plans rings members actors i me.0 (after_step me.0 step reply) mine.0 agree.spans lt
            record { span = own.span ∙ sym (ap (λ (v : Party Item). v.span) party); observed = own.observed ∙ sym observed }
            (party ∙ sym (ap (λ (v : Actor). v.party) (at me.0))));
        entries =
            subst (λ (v : List Member). EntriesAgree pool rings new_places v (slice_set actors i (after_step me.0 step reply))) same entries;
      }

  pub stash_goes : (b : ℕ) (reply : Reply) (new_places : List Place) → reply ≡ (if is_held_at i (entry places b) then Seen b else NotYours)
      → new_places ≡ (if is_held_at i (entry places b) then slice_set places b (Cached i) else places) → Goes (Stash b) reply rings new_places members
  stash_goes b reply new_places is did = by_test (is_held_at i (entry places b)) refl
    where
      answer : reply ≡ (if is_held me.0 b then Seen b else NotYours)
      answer = is ∙ ap (λ v. if v then Seen b else NotYours) (held_at_is pool places i me.0 mine.0 hand b)

      by_test : (t : Bool) → is_held_at i (entry places b) ≡ t → Goes (Stash b) reply rings new_places members
      by_test true e =
          let seen : reply ≡ Seen b = is ∙ ap (λ v. if v then Seen b else NotYours) e in
          let new : new_places ≡ slice_set places b (Cached i) = did ∙ ap (λ v. if v then slice_set places b (Cached i) else places) e in
          subst (λ (v : Reply). Goes (Stash b) v rings new_places members) (sym seen)
          (subst (λ (v : List Place). Goes (Stash b) (Seen b) rings v members) (sym new)
          (local (Stash b) (Seen b) (slice_set places b (Cached i)) (sym seen ∙ answer) refl refl
          (entries_stashed pool rings places members actors i me.0 mine.0 b agree.entries me.1 mine.1 e)))
      by_test false e =
          let seen : reply ≡ NotYours = is ∙ ap (λ v. if v then Seen b else NotYours) e in
          let new : new_places ≡ places = did ∙ ap (λ v. if v then slice_set places b (Cached i) else places) e in
          subst (λ (v : Reply). Goes (Stash b) v rings new_places members) (sym seen)
          (subst (λ (v : List Place). Goes (Stash b) NotYours rings v members) (sym new)
          (local (Stash b) NotYours places (sym seen ∙ answer) refl refl (kept me.0 mine.0 (λ c. refl) refl refl refl)))

  pub unstash_goes : (b : ℕ) (reply : Reply) (new_places : List Place) → reply ≡ (if is_cached_at i (entry places b) then Seen b else NotYours)
      → new_places ≡ (if is_cached_at i (entry places b) then slice_set places b (Held i) else places) → Goes (Unstash b) reply rings new_places members
  unstash_goes b reply new_places is did = by_test (is_cached_at i (entry places b)) refl
    where
      answer : reply ≡ (if (holds tags b me.0.party == 1) && is_cached me.0 b then Seen b else NotYours)
      answer = is ∙ ap (λ v. if v then Seen b else NotYours) (cached_at_is pool places i me.0 mine.0 hand b)

      by_test : (t : Bool) → is_cached_at i (entry places b) ≡ t → Goes (Unstash b) reply rings new_places members
      by_test true e =
          let seen : reply ≡ Seen b = is ∙ ap (λ v. if v then Seen b else NotYours) e in
          let new : new_places ≡ slice_set places b (Held i) = did ∙ ap (λ v. if v then slice_set places b (Held i) else places) e in
          subst (λ (v : Reply). Goes (Unstash b) v rings new_places members) (sym seen)
          (subst (λ (v : List Place). Goes (Unstash b) (Seen b) rings v members) (sym new)
          (local (Unstash b) (Seen b) (slice_set places b (Held i)) (sym seen ∙ answer) refl refl
          (entries_unstashed pool rings places members actors i me.0 mine.0 b agree.entries me.1 mine.1 e)))
      by_test false e =
          let seen : reply ≡ NotYours = is ∙ ap (λ v. if v then Seen b else NotYours) e in
          let new : new_places ≡ places = did ∙ ap (λ v. if v then slice_set places b (Held i) else places) e in
          subst (λ (v : Reply). Goes (Unstash b) v rings new_places members) (sym seen)
          (subst (λ (v : List Place). Goes (Unstash b) NotYours rings v members) (sym new)
          (local (Unstash b) NotYours places (sym seen ∙ answer) refl refl (kept me.0 mine.0 (λ c. refl) refl refl refl)))

  -- the same for a step and lists that are equal to these
  pub goes_as : (step other : Step) (reply : Reply) (new_rings other_rings : List Ring) (new_places other_places : List Place)
      (new_members other_members : List Member) → other ≡ step → other_rings ≡ new_rings → other_places ≡ new_places → other_members ≡ new_members
      → Goes step reply new_rings new_places new_members → Goes other reply other_rings other_places other_members
  goes_as step other reply new_rings other_rings new_places other_places new_members other_members is_step is_rings is_places is_members g =
      subst (λ (v : Step). Goes v reply other_rings other_places other_members) (sym is_step)
      (subst (λ (v : List Ring). Goes step reply v other_places other_members) (sym is_rings)
      (subst (λ (v : List Place). Goes step reply new_rings v other_members) (sym is_places)
      (subst (λ (v : List Member). Goes step reply new_rings new_places v) (sym is_members) g)))
