-- The steps that only read, and a lost exchange, keep a fabric consistent
use Rattle.std.proofs.Common.{◌≡◌, ℕ, ◌+◌, ◌*◌, ◌/◌, ◌%◌, ◌<◌, ◌≤◌, List, length, set, get_or, sym, refl, ap, ◌∙◌, subst, arith, Bool, true, false}
use Rattle.std.specs.Prelude.{slice_get, slice_index_or, Option, Some, None, ◌==◌, if◌then◌else◌}
use mathlib.Core.Option.{some, none}
use lib.ListN.{get_elem?}
use Rattle.std.proofs.lemmas.Bool.Decides.{nat_tests}
use Rattle.std.proofs.lemmas.Option.{slice_get_within}
use Rattle.atomic_table.specs.Table.{Me, step, keeps, Allows}
use Rattle.geom.specs.declared.plan.Mode.{Mode}
use Rattle.geom.specs.declared.plan.Mode.TheVariants.{Multi, Hts}
use Rattle.geom.specs.declared.plan.Side.{Side}
use Rattle.geom.specs.declared.plan.Side.TheVariants.{Put, Take}
use Rattle.geom.specs.declared.plan.RingPlan.{RingPlan}
use Rattle.geom.specs.Extent.{range_of}
use Rattle.geom.proofs.Words.{word_whole}
use Rattle.geom.specs.Plan.{mode_of}
use Rattle.ringcore_laws.specs.declared.party.Party.{Party}
use Rattle.ringcore_laws.specs.declared.protocol.Observed.{Observed}
use Rattle.ringcore_laws.specs.RingSide.{RingSide, side_of}
use Rattle.ringcore_laws.specs.HeadTailRule.{base}
use Rattle.ringcore_laws.specs.FreeRings.{buffers_had}
use Rattle.ringcore_laws.specs.History.{other_side, own_word, position_of, with_tail}
use Rattle.ringcore_laws.specs.Invariant.{IsBehind, TrueObserved}
use Rattle.ringcore_laws.proofs.Laws.{same_plan}
use Rattle.ringcore_laws.proofs.FreeRoom.{room_for_all}
use Rattle.fabric_laws.specs.declared.view.View.{View}
use Rattle.fabric_laws.specs.Rule.{IsConsistent, IsTrueView, parties_of_views}
use Rattle.fabric_laws.specs.Words.{own_at, settled_word_at}
use Rattle.fabric_laws.specs.Changes.{view_after_look, view_after_room, found_busy, looked, missed}
use Rattle.fabric_laws.specs.Kinds.{HasRoom, IsNear, ReadsBack, look_tells, room_tells}
use Rattle.fabric_laws.proofs.Lanes.{own_same}
use Rattle.fabric_laws.proofs.Steps.{St, base_low, position_base, position_is, side_ruled, stays, take_base, word_is}
use Rattle.fabric_laws.proofs.Views.{party_here, party_within}

module _ {T : Type 0} (tags : T → List ℕ) (plans : List RingPlan) (pool : ℕ) where
  module _ (s : St T) (c : IsConsistent tags plans pool s) (id : ℕ) (v : View T) (here : get_elem? s.views id ≡ some v) (alive : 0 < v.parts)
      (r : ℕ) (plan : RingPlan) (at : slice_get plans r ≡ Some plan) where
    abbrev parties : List (Party T)
    parties = parties_of_views s.views

    abbrev known : IsTrueView plans parties v
    known = c.views id v here

    -- the hand's settled spans of a side end at or below where the side is settled
    pub reads_back : (side : Side) → ReadsBack r side (side_of parties r side).len v
    reads_back side j x e same_ring same_side =
        subst (λ (z : ℕ × Side). x.start + length x.items ≤ (side_of parties z.0 z.1).len) (λ k. (same_ring k, same_side k)) (known.ends j x e)

    -- what the hand knows after it looked, or was lost
    pub still_true : (w : View T) → w.party ≡ v.party → w.shown ≡ v.shown
        → ((o : Observed) → w.observed ≡ Some o → TrueObserved plans parties o × IsBehind plans parties o) → IsTrueView plans parties w
    still_true w same_party same_shown observed = record {
      observed = observed;
      shown = λ span busy taking. same_shown ∙ known.shown span (sym (ap (λ (p : Party T). p.span) same_party) ∙ busy) taking;
      ends = λ j x e. known.ends j x (sym (ap (λ (p : Party T). get_elem? p.settled j) same_party) ∙ e);
    }

    module _ (side : Side) where
      abbrev found : ℕ
      found = get_or s.words (own_at r side) 0

      pub looked_true : (whole : mode_of plan side ≡ Hts → (q : ℕ) × (found ≡ q * range_of plan.geometry)) → IsTrueView plans parties (looked r side found v)
      looked_true whole =
          let seen : Observed = record { ring = r; side = side; looked_at = found; tail_seen = None } in
          still_true (looked r side found v) refl refl (λ o e. subst (λ (z : Observed). TrueObserved plans parties z × IsBehind plans parties z) (same_plan e) (
            record {
              known = slice_get_within plans r plan at;
              whole = λ plan' at' hts.
                  let same : plan ≡ plan' = same_plan (sym at ∙ at') in
                  let q = whole (ap (λ (z : RingPlan). mode_of z side) same ∙ hts) in
                  (q.0, q.1 ∙ ap (λ (z : RingPlan). q.0 * range_of z.geometry) same);
              tail_seen = λ t h. absurd (let u : None ≡ Some t = h in cc);
            },
            λ plan' at'.
                let same : plan ≡ plan' = same_plan (sym at ∙ at') in
                subst (λ (z : RingPlan). position_of z.geometry (mode_of z side) found ≤ base (mode_of z side) (side_of parties r side)) same
                (omega (arith, position_is tags plans pool s c r plan at side)),
          ))

      pub after_look_true : IsTrueView plans parties (view_after_look plan.geometry (mode_of plan side) r side found v)
      after_look_true = by_mode (mode_of plan side) refl
        where
          by_test : (t : Bool) → (found % range_of plan.geometry == 0) ≡ t → IsTrueView plans parties (if t then looked r side found v else found_busy found v)
          by_test true e =
              looked_true (λ _. (
                found / range_of plan.geometry,
                let rest : found % range_of plan.geometry ≡ 0 = grind (arith, nat_tests) in
                    omega (arith, word_whole plan.geometry found),
              ))
          by_test false e = still_true (found_busy found v) refl refl (λ o h. absurd (let u : None ≡ Some o = h in cc))

          by_mode : (m : Mode) → mode_of plan side ≡ m → IsTrueView plans parties (view_after_look plan.geometry m r side found v)
          by_mode Multi e = looked_true (λ h. absurd (let u : Multi ≡ Hts = sym e ∙ h in cc))
          by_mode Hts e = by_test (found % range_of plan.geometry == 0) refl

      same_rest : (m : Mode) → ((view_after_look plan.geometry m r side found v).party ≡ v.party) × ((view_after_look plan.geometry m r side found v).parts ≡ v.parts)
          × ((view_after_look plan.geometry m r side found v).plans ≡ v.plans) × ((view_after_look plan.geometry m r side found v).pool ≡ v.pool)
      same_rest Multi = (refl, refl, refl, refl)
      same_rest Hts = by_test (found % range_of plan.geometry == 0)
        where
          either : Bool → View T
          either t = if t then looked r side found v else found_busy found v

          by_test : (t : Bool) → ((either t).party ≡ v.party) × ((either t).parts ≡ v.parts) × ((either t).plans ≡ v.plans) × ((either t).pool ≡ v.pool)
          by_test true = (refl, refl, refl, refl)
          by_test false = (refl, refl, refl, refl)

      pub look_stays : IsConsistent tags plans pool record {
        words = set s.words (own_at r side) found;
        homes = s.homes;
        views = set s.views id (view_after_look plan.geometry (mode_of plan side) r side found v);
      }
      look_stays =
          let same = same_rest (mode_of plan side) in
          stays tags plans pool s c (own_at r side) id v (view_after_look plan.geometry (mode_of plan side) r side found v) here alive same.0 same.1 same.2 same.3
          after_look_true

      pub look_reads : ReadsBack r side (position_of plan.geometry (mode_of plan side) found) v × (position_of plan.geometry (mode_of plan side) found ≤ plan.geometry.last)
      look_reads =
          let low = base_low plan.geometry (mode_of plan side) (side_of parties r side) (side_ruled tags plans pool s c r plan at side) in
          let last = (side_ruled tags plans pool s c r plan at side).last in (
            λ j x e a b. omega (arith, reads_back side j x e a b, low.0, position_is tags plans pool s c r plan at side),
            omega (arith, low.1, last, position_is tags plans pool s c r plan at side),
          )

  pub looks : (slots id : ℕ) (me : Me (Option T) (View T)) (r : ℕ) (side : Side) (plan : RingPlan) → slice_get plans r ≡ Some plan → 0 < me.0.parts
      → Allows (IsConsistent tags plans pool) slots id me (own_at r side) (λ n. n) (look_tells (step slots (own_at r side) 0 0 none) me)
  looks slots id me r side plan at alive s c _ here _ =
      let v : View T = me.0 in
      let x : ℕ = get_or s.words (own_at r side) 0 in
      let w : View T = view_after_look plan.geometry (mode_of plan side) r side x v in
      let reads = look_reads s c id v here alive r plan at side in (
        w,
        keeps,
        tt,
        look_stays s c id v here alive r plan at side,
        λ q side' plan' e at'.
            let same = own_same r side q side' e in
            let told : slice_get plans q ≡ Some plan' = ap (λ (l : List RingPlan). slice_get l q) (sym (c.told id v here alive).0) ∙ at' in
            let is : plan ≡ plan' = same_plan (sym at ∙ (ap (slice_get plans) same.0 ∙ told)) in
            subst (λ (z : ℕ × Side × RingPlan). (◌≡◌ {A = View T} w (view_after_look z.2.geometry (mode_of z.2 z.1) z.0 z.1 x v)) × (me.1 ≡ me.1)
            × ReadsBack z.0 z.1 (position_of z.2.geometry (mode_of z.2 z.1) x) v
            × (position_of z.2.geometry (mode_of z.2 z.1) x ≤ z.2.geometry.last)) (λ k. (same.0 k, same.1 k, is k)) (refl, refl, reads.0, reads.1),
      )

  -- a question for room

  module _ (s : St T) (c : IsConsistent tags plans pool s) (id : ℕ) (v : View T) (here : get_elem? s.views id ≡ some v) (alive : 0 < v.parts)
      (r : ℕ) (side : Side) (plan : RingPlan) (at : slice_get plans r ≡ Some plan) where
    abbrev other : RingSide T
    other = side_of (parties_of_views s.views) r (other_side side)

    -- the word found shows how far the other side is settled
    pub tail_is : position_of plan.geometry (mode_of plan (other_side side)) (get_or s.words (settled_word_at (mode_of plan (other_side side)) r (other_side side)) 0)
        ≡ other.len
    tail_is = by_mode (mode_of plan (other_side side)) refl
      where
        by_mode : (m : Mode) → mode_of plan (other_side side) ≡ m → position_of plan.geometry m (get_or s.words (settled_word_at m r (other_side side)) 0) ≡ other.len
        by_mode Multi e = c.words.tail r (other_side side) plan at e
        by_mode Hts e =
            ap (position_of plan.geometry Hts) (word_is tags plans pool s c r plan at (other_side side) ∙ ap (λ m. own_word plan.geometry m other) e)
            ∙ position_base plan.geometry Hts other (λ _. (side_ruled tags plans pool s c r plan at (other_side side)).small e)

    module _ (o : Observed) (seen : v.observed ≡ Some o) (on_ring : o.ring ≡ r) (on_side : o.side ≡ side) where
      pub room_true : IsTrueView plans (parties_of_views s.views) (view_after_room other.len v)
      room_true =
          let old = (c.views id v here).observed o seen in
          still_true s c id v here alive r plan at (view_after_room other.len v) refl refl
          (λ q e. subst (λ (z : Observed). TrueObserved plans (parties_of_views s.views) z × IsBehind plans (parties_of_views s.views) z)
          (same_plan (sym (ap (λ z. with_tail z other.len) seen) ∙ e)) (
            record {
              known = old.0.known;
              whole = old.0.whole;
              tail_seen = λ t h.
                  let same : other.len ≡ t = same_plan h in
                  subst (λ (z : ℕ × Side). t ≤ (side_of (parties_of_views s.views) z.0 (other_side z.1)).len) (λ k. (sym on_ring k, sym on_side k))
                  (omega (arith, same));
            },
            old.1,
          ))

      -- the position looked at is not above the one that the own word shows now
      behind : position_of plan.geometry (mode_of plan side) o.looked_at ≤ base (mode_of plan side) (side_of (parties_of_views s.views) r side)
      behind =
          let old = ((c.views id v here).observed o seen).1 plan (ap (slice_get plans) on_ring ∙ at) in
          subst (λ (z : ℕ × Side). position_of plan.geometry (mode_of plan z.1) o.looked_at ≤ base (mode_of plan z.1) (side_of (parties_of_views s.views) z.0 z.1))
          (λ k. (on_ring k, on_side k)) old

      near : IsNear side plan.geometry.capacity (position_of plan.geometry (mode_of plan side) o.looked_at) other.len
      near = by_side side refl
        where
          by_side : (d : Side) → side ≡ d → IsNear d plan.geometry.capacity (position_of plan.geometry (mode_of plan d) o.looked_at)
              (side_of (parties_of_views s.views) r (other_side d)).len
          by_side Put e =
              let low =
              subst (λ (z : Side). position_of plan.geometry (mode_of plan z) o.looked_at ≤ base (mode_of plan z) (side_of (parties_of_views s.views) r z)) e behind in
              omega (
                arith,
                low,
                (base_low plan.geometry plan.put (side_of (parties_of_views s.views) r Put) (side_ruled tags plans pool s c r plan at Put)).1,
                c.ruled.room r plan at,
              )
          by_side Take e =
              let low =
              subst (λ (z : Side). position_of plan.geometry (mode_of plan z) o.looked_at ≤ base (mode_of plan z) (side_of (parties_of_views s.views) r z)) e behind in
              omega (arith, low, take_base tags plans pool s c r plan at)

      room : v.party.span ≡ None → HasRoom tags side plan (position_of plan.geometry (mode_of plan side) o.looked_at) other.len v
      room idle = by_side side refl
        where
          by_side : (d : Side) → side ≡ d → HasRoom tags d plan (position_of plan.geometry (mode_of plan d) o.looked_at)
              (side_of (parties_of_views s.views) r (other_side d)).len v
          by_side Put e = λ free.
              let low =
              subst (λ (z : Side). position_of plan.geometry (mode_of plan z) o.looked_at ≤ base (mode_of plan z) (side_of (parties_of_views s.views) r z)) e behind in
              let mine = party_here s.views id v v.party here in
              let all = room_for_all tags plans pool (parties_of_views s.views) c.sound c.ruled c.free id v.party (party_within s.views id v here)
              (ap (λ (p : Party T). p.span) mine ∙ idle) r plan at free (c.fitting.free_rings r plan at free) in
              let count : buffers_had tags v.pool v.party ≡ buffers_had tags pool (slice_index_or (parties_of_views s.views) id v.party) =
              ap (λ n. buffers_had tags n v.party) (c.told id v here alive).1 ∙ ap (buffers_had tags pool) (sym mine) in
              omega (arith, low, all, count)
          by_side Take e = tt

      pub room_stays : IsConsistent tags plans pool record {
        words = set s.words (settled_word_at (mode_of plan (other_side side)) r (other_side side))
            (get_or s.words (settled_word_at (mode_of plan (other_side side)) r (other_side side)) 0);
        homes = s.homes;
        views = set s.views id (view_after_room other.len v);
      }
      room_stays =
          stays tags plans pool s c (settled_word_at (mode_of plan (other_side side)) r (other_side side)) id v (view_after_room other.len v) here alive refl refl refl
          refl room_true

      pub room_found : ReadsBack r (other_side side) other.len v × (other.len ≤ plan.geometry.last)
          × IsNear side plan.geometry.capacity (position_of plan.geometry (mode_of plan side) o.looked_at) other.len
          × (v.party.span ≡ None → HasRoom tags side plan (position_of plan.geometry (mode_of plan side) o.looked_at) other.len v)
      room_found = (
        reads_back s c id v here alive r plan at (other_side side),
        omega (arith, (side_ruled tags plans pool s c r plan at (other_side side)).behind, (side_ruled tags plans pool s c r plan at (other_side side)).last),
        near,
        room,
      )

  pub rooms : (slots id : ℕ) (me : Me (Option T) (View T)) (r : ℕ) (side : Side) (plan : RingPlan) (o : Observed) → slice_get plans r ≡ Some plan
      → 0 < me.0.parts
      → me.0.observed ≡ Some o → o.ring ≡ r → o.side ≡ side
      → Allows (IsConsistent tags plans pool) slots id me (settled_word_at (mode_of plan (other_side side)) r (other_side side)) (λ n. n)
      (room_tells tags (step slots (settled_word_at (mode_of plan (other_side side)) r (other_side side)) 0 0 none) me)
  rooms slots id me r side plan o at alive seen on_ring on_side s c _ here _ =
      let v : View T = me.0 in
      let i : ℕ = settled_word_at (mode_of plan (other_side side)) r (other_side side) in
      let x : ℕ = get_or s.words i 0 in
      let tail : position_of plan.geometry (mode_of plan (other_side side)) x ≡ (side_of (parties_of_views s.views) r (other_side side)).len =
      tail_is s c id v here alive r side plan at in
      let got = room_found s c id v here alive r side plan at o seen on_ring on_side in (
        view_after_room (side_of (parties_of_views s.views) r (other_side side)).len v,
        keeps,
        tt,
        room_stays s c id v here alive r side plan at o seen on_ring on_side,
        λ q side' plan' o' e at' seen' ring' side_is.
            let same_o : o ≡ o' = same_plan (sym seen ∙ seen') in
            let to : r ≡ q = sym on_ring ∙ (ap (λ (z : Observed). z.ring) same_o ∙ ring') in
            let across : side ≡ side' = sym on_side ∙ (ap (λ (z : Observed). z.side) same_o ∙ side_is) in
            let told : slice_get plans q ≡ Some plan' = ap (λ (l : List RingPlan). slice_get l q) (sym (c.told id v here alive).0) ∙ at' in
            let is : plan ≡ plan' = same_plan (sym at ∙ (ap (slice_get plans) to ∙ told)) in
            subst (λ (z : ℕ × Side × RingPlan × Observed). let t = position_of z.2.geometry (mode_of z.2 (other_side z.1)) x in let p =
            position_of z.2.geometry (mode_of z.2 z.1) z.3.looked_at in
            (◌≡◌ {A = View T} (view_after_room (side_of (parties_of_views s.views) r (other_side side)).len v) (view_after_room t v)) × (me.1 ≡ me.1)
            × ReadsBack z.0 (other_side z.1) t v × (t ≤ z.2.geometry.last)
            × IsNear z.1 z.2.geometry.capacity p t × (v.party.span ≡ None → HasRoom tags z.1 z.2 p t v)) (λ k. (to k, across k, is k, same_o k))
            (subst (λ (t : ℕ). (◌≡◌ {A = View T} (view_after_room (side_of (parties_of_views s.views) r (other_side side)).len v) (view_after_room t v)) × (me.1 ≡ me.1)
            × ReadsBack r (other_side side) t v × (t ≤ plan.geometry.last)
            × IsNear side plan.geometry.capacity (position_of plan.geometry (mode_of plan side) o.looked_at) t
            × (v.party.span ≡ None → HasRoom tags side plan (position_of plan.geometry (mode_of plan side) o.looked_at) t v))
            (sym tail) (refl, refl, got.0, got.1, got.2, got.3)),
      )

  -- a lost exchange changes nothing except that the hand missed
  pub lost : (s : St T) (c : IsConsistent tags plans pool s) (i id : ℕ) (v : View T) → get_elem? s.views id ≡ some v → 0 < v.parts
      → IsConsistent tags plans pool record {
        words = set s.words i (get_or s.words i 0);
        homes = s.homes;
        views =
            set s.views id (missed (get_or s.words i 0) v);
      }
  lost s c i id v here alive =
      let k = c.views id v here in
      stays tags plans pool s c i id v (missed (get_or s.words i 0) v) here alive refl refl refl refl
      record { observed = k.observed; shown = k.shown; ends = k.ends }
