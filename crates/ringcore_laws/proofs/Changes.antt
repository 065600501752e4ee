-- What an answered step does to its actor: its party is unchanged, opens a span, or settles the open one; and no side
-- goes back
use Rattle.std.proofs.Common.{ℕ, ◌+◌, ◌-◌, ◌≤◌, ◌<◌, ◌≡◌, ◌∙◌, ◌⊎◌, inl, inr, List, [], length, take, drop, refl, ap, sym, subst, arith, true, false, Bool}
use Rattle.std.specs.Prelude.{slice_get, slice_set, slice_index_or, nat_lt, Option, Some, None, ◌&&◌, ◌||◌, ◌==◌, if◌then◌else◌}
use Rattle.std.specs.List.{list_all, flat_map}
use Rattle.std.proofs.lemmas.Bool.Decides.{nat_tests}
use Rattle.std.proofs.lemmas.List.{length-drop, length-take}
use Rattle.std.proofs.lemmas.Option.{get_or_from_slice_get, slice_get_within}
use Rattle.geom.specs.declared.plan.How.{How}
use Rattle.geom.specs.declared.plan.Mode.{Mode}
use Rattle.geom.specs.declared.plan.Mode.TheVariants.{Multi, Hts}
use Rattle.geom.specs.declared.plan.RingPlan.{RingPlan}
use Rattle.geom.specs.declared.plan.Side.{Side}
use Rattle.geom.specs.declared.plan.Side.TheVariants.{Put, Take}
use Rattle.geom.specs.Plan.{mode_of}
use Rattle.ringcore_laws.specs.declared.contents.Item.{Item}
use Rattle.ringcore_laws.specs.declared.protocol.Span.{Span}
use Rattle.ringcore_laws.specs.declared.protocol.Step.{Step}
use Rattle.ringcore_laws.specs.declared.protocol.Step.TheVariants.{Look, Room, Reserve, SettlePut, SettleTake, Stash, Unstash}
use Rattle.ringcore_laws.specs.declared.protocol.Reply.{Reply}
use Rattle.ringcore_laws.specs.declared.protocol.Reply.TheVariants.{Seen, Granted, Done, Busy, NoSpan}
use Rattle.ringcore_laws.specs.declared.party.Party.{Party}
use Rattle.ringcore_laws.specs.declared.party.Settled.{Settled}
use Rattle.ringcore_laws.specs.Party.{is_on, with_open, with_settled}
use Rattle.ringcore_laws.specs.Moves.{reserved_by, settled_by}
use Rattle.ringcore_laws.specs.RingSide.{IsGapless, side_of, listed, settled_end, span_end}
use Rattle.ringcore_laws.specs.Runs.{is_done, is_grant}
use Rattle.ringcore_laws.specs.Sound.{SoundRing, occurrences}
use Rattle.ringcore_laws.specs.HeadTailRule.{base}
use Rattle.ringcore_laws.specs.Invariant.{Invariant}
use Rattle.ringcore_laws.specs.History.{Event, after, one_stepped, Actor, after_step, buffers_of_actor, earlier_open, is_bad_reserve, is_held, may_put, on_ring}
use Rattle.ringcore_laws.specs.History.{parties_of, put_reply, actor_reply, reserve_reply, settled_span, tags, take_reply}
use Rattle.ringcore_laws.proofs.SideLaws.{Settles, reserves, settles_side_of}
use Rattle.ringcore_laws.proofs.Laws.{same_plan, on_own}
use Rattle.ringcore_laws.proofs.RingLaws.{held_cases, length-listed}
use Rattle.ringcore_laws.proofs.HeadTailLaws.{first_in_line, on_or_off, own_span}
use Rattle.ringcore_laws.proofs.HistoryLaws.{and_true, on_true, parties_at, parties_length, parties_set, parties_unchanged, settle_fits}
use Rattle.ringcore_laws.proofs.Telling.{granted_tells, on_some_ring, put_done_tells, reserve_tells, take_done_tells}

pub record Opens (plans : List RingPlan) (pool : ℕ) (a b : Actor) : Type 0 where
  pub span : Span
  pub plan : RingPlan
  pub there : slice_get plans span.ring ≡ Some plan
  pub idle : a.party.span ≡ None
  pub party : b.party ≡ with_open a.party span
  pub look : b.observed ≡ None
  pub few : span.side ≡ Put → plan.free ≡ true → span.count ≤ buffers_of_actor pool a

pub record Closes (plans : List RingPlan) (actors : List Actor) (a b : Actor) : Type 0 where
  pub span : Span
  pub plan : RingPlan
  pub items : List Item
  pub there : slice_get plans span.ring ≡ Some plan
  pub busy : a.party.span ≡ Some span
  pub party : b.party ≡ with_settled a.party span items
  pub look : b.observed ≡ a.observed
  pub first : span.start ≡ (side_of (parties_of actors) span.ring span.side).len
  pub whole : mode_of plan span.side ≡ Multi → length items ≡ span.count
  pub single : span.side ≡ Put → plan.free ≡ true → list_all (λ x. length (tags x) == 1) items ≡ true

pub free_count : (free : Bool) (count had : ℕ) → is_bad_reserve Put free count had ≡ false → free ≡ true → count ≤ had
free_count true count had good is = enough (count == 0) (nat_lt had count) refl good
  where
    enough : (z t : Bool) → nat_lt had count ≡ t → (z || (true && t)) ≡ false → count ≤ had
    enough true t e h = absurd (let u : true ≡ false = h in cc)
    enough false true e h = absurd (let u : true ≡ false = h in cc)
    enough false false e h = grind (arith, nat_tests)
free_count false count had good is = absurd (let u : false ≡ true = is in cc)

module _ (plans : List RingPlan) (pool : ℕ) (actors : List Actor) (i : ℕ) (a : Actor) (lt : i < length actors)
    (at : (d : Actor) → slice_index_or actors i d ≡ a) (k : Invariant plans pool actors) where
  abbrev parties : List (Party Item)
  parties = parties_of actors

  here : slice_index_or parties i a.party ≡ a.party
  here = parties_at actors i a lt ∙ ap (λ (v : Actor). v.party) (at a)

  lt' : i < length parties
  lt' = omega (arith, parties_length actors)

  abbrev Change : Actor → Type 0
  Change b = (b.party ≡ a.party) ⊎ (Opens plans pool a b ⊎ Closes plans actors a b)

  reserving : (ring : ℕ) (side : Side) (how : How) (count start n left : ℕ) (o : Option RingPlan) → slice_get plans ring ≡ o
      → on_ring o (λ plan. reserve_reply plan pool ring side how count (side_of parties ring side) a) ≡ Granted start n left
      → Opens plans pool a (after_step a (Reserve ring side how count) (Granted start n left))
  reserving ring side how count start n left o is right =
      let found =
      on_some_ring o (λ plan. reserve_reply plan pool ring side how count (side_of parties ring side) a) (Granted start n left)
      (λ e. (let u : NoSpan ≡ Granted start n left = e in cc)) right in
      let r = reserve_tells found.0 pool ring side how count (side_of parties ring side) a (Granted start n left)
      (λ e. (let u : NoSpan ≡ Granted start n left = e in cc)) found.2 in
      let g = granted_tells found.0 side how count (side_of parties ring side) (buffers_of_actor pool a) r.look.looked_at r.tail start n left r.answer in
      record {
        span = record { ring = ring; side = side; start = start; count = n };
        plan = found.0;
        there = is ∙ found.1;
        idle = r.idle;
        party = refl;
        look = refl;
        few = λ put free. few side put found.0.free free g.0 g.1;
      }
    where
      few : (v : Side) → v ≡ Put → (free : Bool) → free ≡ true → is_bad_reserve v free count (buffers_of_actor pool a) ≡ false → n ≤ count
          → n ≤ buffers_of_actor pool a
      few Put put free is_free good le = omega (arith, le, free_count free count (buffers_of_actor pool a) good is_free)
      few Take put free is_free good le = absurd (let u : Take ≡ Put = put in cc)

  starts : (s : Span) (plan : RingPlan) → a.party.span ≡ Some s → slice_get plans s.ring ≡ Some plan → earlier_open s.ring s.side s.start parties ≡ false
      → s.start ≡ (side_of parties s.ring s.side).len
  starts s plan busy there none = by_side s.side refl
    where
      ring_sound : SoundRing plan.geometry (side_of parties s.ring Put) (side_of parties s.ring Take)
      ring_sound = k.sound.rings s.ring plan there

      busy' : (slice_index_or parties i a.party).span ≡ Some s
      busy' = ap (λ (v : Party Item). v.span) here ∙ busy

      by_side : (v : Side) → s.side ≡ v → s.start ≡ (side_of parties s.ring s.side).len
      by_side Put e =
          first_in_line plans parties i a.party s plan k.ruled (subst (λ (v : Side). IsGapless (side_of parties s.ring v)) (sym e) ring_sound.published)
          (subst (λ (v : Side). (p : ℕ) → 0 < (side_of parties s.ring v).openers p → (side_of parties s.ring v).items_at p ≡ []) (sym e)
          ring_sound.puts_unsettled) lt' busy' there none
      by_side Take e =
          first_in_line plans parties i a.party s plan k.ruled (subst (λ (v : Side). IsGapless (side_of parties s.ring v)) (sym e) ring_sound.dequeued)
          (subst (λ (v : Side). (p : ℕ) → 0 < (side_of parties s.ring v).openers p → (side_of parties s.ring v).items_at p ≡ []) (sym e)
          ring_sound.takes_unsettled) lt' busy' there none

  singles : (free : Bool) (items : List Item) → may_put free a items ≡ true → free ≡ true → list_all (λ x. length (tags x) == 1) items ≡ true
  singles true items may is =
      let once = list_all (λ b. occurrences b (flat_map tags items) == 1) (flat_map tags items) in
      let single = list_all (λ x. length (tags x) == 1) items in
      (and_true once single (and_true (list_all (is_held a) (flat_map tags items)) (once && single)
      (right_nested (list_all (is_held a) (flat_map tags items)) once single may)).1).1
    where
      right_nested : (x y z : Bool) → ((x && y) && z) ≡ true → (x && (y && z)) ≡ true
      right_nested true true z h = h
      right_nested true false z h = h
      right_nested false y z h = h
  singles false items may is = absurd (let u : false ≡ true = is in cc)

  putting : (ring : ℕ) (items : List Item) (n : ℕ) (its : List Item) (o : Option RingPlan) → slice_get plans ring ≡ o
      → on_ring o (λ plan. put_reply plan ring parties a items a.party.span) ≡ Done n its
      → Closes plans actors a (after_step a (SettlePut ring items) (Done n its))
  putting ring items n its o is right =
      let found = on_some_ring o (λ plan. put_reply plan ring parties a items a.party.span) (Done n its) (λ e. (let u : NoSpan ≡ Done n its = e in cc)) right in
      let told = put_done_tells found.0 ring parties a items a.party.span n its found.2 in
      let s = told.0 in
      let place = on_true s.ring ring s.side Put told.2 in
      let there : slice_get plans s.ring ≡ Some found.0 = ap (slice_get plans) (sym place.0) ∙ (is ∙ found.1) in
      let mode : mode_of found.0 s.side ≡ found.0.put = ap (mode_of found.0) (sym place.1) in
      record {
        span = s;
        plan = found.0;
        items = items;
        there = there;
        busy = told.1;
        party = ap (λ o'. settled_span a.party o' items) told.1;
        look = refl;
        first = starts s found.0 told.1 there (ap (λ r. earlier_open r s.side s.start parties) (sym place.0)
            ∙ (ap (λ v. earlier_open ring v s.start parties) (sym place.1) ∙ told.5));
        whole = λ multi. (settle_fits found.0.put (length items) s.count told.3).1 (sym mode ∙ multi);
        single = λ put free. singles found.0.free items told.4 free;
      }

  taking : (ring count n : ℕ) (its : List Item) (o : Option RingPlan) → slice_get plans ring ≡ o
      → on_ring o (λ plan. take_reply plan ring parties count a.party.span) ≡ Done n its
      → Closes plans actors a (after_step a (SettleTake ring count) (Done n its))
  taking ring count n its o is right =
      let found = on_some_ring o (λ plan. take_reply plan ring parties count a.party.span) (Done n its) (λ e. (let u : NoSpan ≡ Done n its = e in cc)) right in
      let told = take_done_tells found.0 ring parties count a.party.span n its found.2 in
      let s = told.0 in
      let place = on_true s.ring ring s.side Take told.2 in
      let there : slice_get plans s.ring ≡ Some found.0 = ap (slice_get plans) (sym place.0) ∙ (is ∙ found.1) in
      let mode : mode_of found.0 s.side ≡ found.0.take = ap (mode_of found.0) (sym place.1) in
      let fits = settle_fits found.0.take count s.count told.3 in
      let none = ap (λ r. earlier_open r s.side s.start parties) (sym place.0) ∙ (ap (λ v. earlier_open ring v s.start parties) (sym place.1) ∙ told.4) in
      let first = starts s found.0 told.1 there none in
      record {
        span = s;
        plan = found.0;
        items = its;
        there = there;
        busy = told.1;
        party = ap (λ o'. settled_span a.party o' its) told.1;
        look = refl;
        first = first;
        whole = λ multi. whole s found.0 told.1 there (sym place.1) fits.0
            (ap (λ r. take count (drop s.start (listed (side_of parties r Put)))) (sym place.0) ∙ told.5) ∙ fits.1 (sym mode ∙ multi);
        single = λ put free. absurd (let u : Take ≡ Put = place.1 ∙ put in cc);
      }
    where
      whole : (s : Span) (plan : RingPlan) → a.party.span ≡ Some s → slice_get plans s.ring ≡ Some plan → s.side ≡ Take → count ≤ s.count
          → take count (drop s.start (listed (side_of parties s.ring Put))) ≡ its → length its ≡ count
      whole s plan busy there on le is =
          sym (ap length is)
          ∙ (length-take count (drop s.start (listed (side_of parties s.ring Put)))
          ∙ (let e1 = length-drop s.start (listed (side_of parties s.ring Put)) in let e2 =
          length-listed (side_of parties s.ring Put) ring_sound.published in omega (arith, stands, le)))
        where
          ring_sound : SoundRing plan.geometry (side_of parties s.ring Put) (side_of parties s.ring Take)
          ring_sound = k.sound.rings s.ring plan there

          busy' : (slice_index_or parties i a.party).span ≡ Some s
          busy' = ap (λ (v : Party Item). v.span) here ∙ busy

          positive : 0 < s.count
          positive = (k.ruled.spans i a.party s lt' busy').positive

          holds_last : 0 < (side_of parties s.ring s.side).openers (s.start + (s.count - 1))
          holds_last = elim (held_cases s (s.start + (s.count - 1))) [
            | inl inside ↦ omega (arith, inside.2, (own_span parties i a.party s lt' busy').2 (s.start + (s.count - 1)))
            | inr out ↦ elim out.0 [ inl x ↦ absurd (omega arith) | inr y ↦ absurd (omega (arith, positive)) ]
          ]

          last : 0 < (side_of parties s.ring Take).openers (s.start + (s.count - 1))
          last = subst (λ (v : Side). 0 < (side_of parties s.ring v).openers (s.start + (s.count - 1))) on holds_last

          stands : s.start + s.count ≤ (side_of parties s.ring Put).len
          stands = omega (arith, (ring_sound.takes_are_queued (s.start + (s.count - 1)) last).1, positive)

  -- what the step did to its actor
  pub changes : (step : Step) (reply : Reply) → actor_reply plans pool parties a step ≡ reply → Change (after_step a step reply)
  changes (Look ring side) (Seen w) right = inl refl
  changes (Look ring side) (Busy w) right = inl refl
  changes (Look ring side) _ right = inl refl
  changes (Room ring side) (Seen w) right = inl refl
  changes (Room ring side) _ right = inl refl
  changes (Reserve ring side how count) NoSpan right = inl refl
  changes (Reserve ring side how count) (Granted start n left) right = inr (inl (reserving ring side how count start n left (slice_get plans ring) refl right))
  changes (Reserve ring side how count) _ right = inl refl
  changes (SettlePut ring items) (Done n its) right = inr (inr (putting ring items n its (slice_get plans ring) refl right))
  changes (SettlePut ring items) _ right = inl refl
  changes (SettleTake ring count) (Done n its) right = inr (inr (taking ring count n its (slice_get plans ring) refl right))
  changes (SettleTake ring count) _ right = inl refl
  changes (Stash b) (Seen c) right = inl refl
  changes (Stash b) _ right = inl refl
  changes (Unstash b) (Seen c) right = inl refl
  changes (Unstash b) _ right = inl refl

  -- the parties after each change
  pub parties_stay : (b : Actor) → b.party ≡ a.party → parties_of (slice_set actors i b) ≡ parties
  parties_stay b same = parties_unchanged actors i a b lt (same ∙ ap (λ (v : Actor). v.party) (sym (at a)))

  pub parties_opened : (b : Actor) (o : Opens plans pool a b) → parties_of (slice_set actors i b) ≡ reserved_by parties i a.party o.span
  parties_opened b o = parties_set actors i b ∙ ap (slice_set parties i) (o.party ∙ ap (λ (v : Party Item). with_open v o.span) (sym here))

  pub parties_closed : (b : Actor) (c : Closes plans actors a b) → parties_of (slice_set actors i b) ≡ settled_by parties i a.party c.span c.items
  parties_closed b c = parties_set actors i b ∙ ap (slice_set parties i) (c.party ∙ ap (λ (v : Party Item). with_settled v c.span c.items) (sym here))

  pub idle_party : a.party.span ≡ None → (slice_index_or parties i a.party).span ≡ None
  idle_party idle = ap (λ (v : Party Item). v.span) here ∙ idle

  pub busy_party : (s : Span) → a.party.span ≡ Some s → (slice_index_or parties i a.party).span ≡ Some s
  busy_party s busy = ap (λ (v : Party Item). v.span) here ∙ busy

  -- no side goes back
  pub grows : (b : Actor) → Change b → (r : ℕ) (side : Side) (plan : RingPlan) → slice_get plans r ≡ Some plan
      → base (mode_of plan side) (side_of parties r side) ≤ base (mode_of plan side) (side_of (parties_of (slice_set actors i b)) r side)
  grows b (inl same) r side plan there = omega (arith, ap (λ v. base (mode_of plan side) (side_of v r side)) (parties_stay b same))
  grows b (inr (inl o)) r side plan there =
      omega (arith, by_mode (mode_of plan side), ap (λ v. base (mode_of plan side) (side_of v r side)) (parties_opened b o))
    where
      by_mode : (m : Mode) → base m (side_of parties r side) ≤ base m (side_of (reserved_by parties i a.party o.span) r side)
      by_mode Multi = omega (arith, (reserves parties i a.party o.span r side lt' (idle_party o.idle)).reach)
      by_mode Hts = omega (arith, (reserves parties i a.party o.span r side lt' (idle_party o.idle)).len)
  grows b (inr (inr c)) r side plan there =
      omega (arith, by_mode (mode_of plan side) refl, ap (λ v. base (mode_of plan side) (side_of v r side)) (parties_closed b c))
    where
      done : Settled Item
      done = record { ring = c.span.ring; side = c.span.side; start = c.span.start; items = c.items }

      s : Settles (side_of parties r side) (side_of (settled_by parties i a.party c.span c.items) r side) r side c.span
          record { ring = c.span.ring; side = c.span.side; start = c.span.start; items = c.items }
      s = settles_side_of parties i a.party c.span record { ring = c.span.ring; side = c.span.side; start = c.span.start; items = c.items } r side lt'
          (busy_party c.span c.busy)

      by_mode : (m : Mode) → mode_of plan side ≡ m → base m (side_of parties r side) ≤ base m (side_of (settled_by parties i a.party c.span c.items) r side)
      by_mode Hts e = omega (arith, s.len)
      by_mode Multi e = elim (on_or_off c.span.ring r c.span.side side) [
        | inl own ↦
            let same_plan_ : plan ≡ c.plan = same_plan (sym there ∙ (ap (slice_get plans) own.0 ∙ c.there)) in
            let multi : mode_of c.plan c.span.side ≡ Multi = ap (mode_of c.plan) (sym own.1) ∙ (ap (λ (v : RingPlan). mode_of v side) (sym same_plan_) ∙ e) in
            let on : is_on c.span.ring c.span.side r side ≡ true =
            ap (λ (v : ℕ). is_on c.span.ring c.span.side v side) own.0
            ∙ (ap (is_on c.span.ring c.span.side c.span.ring) own.1 ∙ on_own c.span.ring c.span.side) in
            let end : span_end r side (Some c.span) ≡ c.span.start + c.span.count = ap (λ v. if v then c.span.start + c.span.count else 0) on in
            let ends : settled_end r side done ≡ c.span.start + length c.items = ap (λ v. if v then c.span.start + length c.items else 0) on in
            omega (arith, s.reach, s.own_end, s.new_end, end, ends, c.whole multi)
        | inr off ↦
            let end : span_end r side (Some c.span) ≡ 0 = ap (λ v. if v then c.span.start + c.span.count else 0) off in
            let ends : settled_end r side done ≡ 0 = ap (λ v. if v then c.span.start + length c.items else 0) off in
            omega (arith, s.reach, end, ends)
      ]

-- a step that is answered neither Granted nor Done leaves the parties
party_left : (a : Actor) (step : Step) (reply : Reply) → is_grant reply ≡ false → is_done reply ≡ false → (after_step a step reply).party ≡ a.party
party_left a (Look ring side) (Seen w) no_grant undone = refl
party_left a (Look ring side) (Busy w) no_grant undone = refl
party_left a (Look ring side) _ no_grant undone = refl
party_left a (Room ring side) (Seen w) no_grant undone = refl
party_left a (Room ring side) _ no_grant undone = refl
party_left a (Reserve ring side how count) NoSpan no_grant undone = refl
party_left a (Reserve ring side how count) (Granted start n left) no_grant undone = absurd (let u : true ≡ false = no_grant in cc)
party_left a (Reserve ring side how count) _ no_grant undone = refl
party_left a (SettlePut ring items) (Done n its) no_grant undone = absurd (let u : true ≡ false = undone in cc)
party_left a (SettlePut ring items) _ no_grant undone = refl
party_left a (SettleTake ring count) (Done n its) no_grant undone = absurd (let u : true ≡ false = undone in cc)
party_left a (SettleTake ring count) _ no_grant undone = refl
party_left a (Stash b) (Seen c) no_grant undone = refl
party_left a (Stash b) _ no_grant undone = refl
party_left a (Unstash b) (Seen c) no_grant undone = refl
party_left a (Unstash b) _ no_grant undone = refl

pub others_leave : (actors : List Actor) (e : Event) → is_grant e.reply ≡ false → is_done e.reply ≡ false → parties_of (after actors e) ≡ parties_of actors
unfolding after
others_leave actors e no_grant undone = by_actor (slice_get actors e.actor) refl
  where
    by_actor : (o : Option Actor) → slice_get actors e.actor ≡ o → parties_of (one_stepped actors e.actor o e.step e.reply) ≡ parties_of actors
    by_actor None at = refl
    by_actor (Some a) at =
        parties_unchanged actors e.actor a (after_step a e.step e.reply) (slice_get_within actors e.actor a at)
        (party_left a e.step e.reply no_grant undone ∙ ap (λ (v : Actor). v.party) (sym (get_or_from_slice_get actors e.actor a a at)))
