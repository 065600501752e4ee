-- What is in the slots at the end
use Rattle.std.proofs.Common.{◌≡◌, ℕ, zero, suc, ◌+◌, ◌*◌, ◌<◌, ◌≤◌, ◌⊎◌, inl, inr, List, [], ◌∷◌, length, refl, sym, ap, ◌∙◌, subst, arith, get_or, true}
use Rattle.std.specs.Prelude.{slice_get, Option, Some, None, drop, if◌then◌else◌}
use mathlib.Core.Option.{some, some-injective, some-ne-none}
use lib.ListN.{get_elem?}
use Rattle.std.proofs.lemmas.List.Sums.{sum_by-cons}
use Rattle.geom.specs.declared.plan.Mode.{Mode}
use Rattle.geom.specs.declared.plan.Mode.TheVariants.{Multi, Hts}
use Rattle.geom.specs.declared.plan.Side.{Side}
use Rattle.geom.specs.declared.plan.Side.TheVariants.{Put, Take}
use Rattle.geom.specs.declared.plan.RingPlan.{RingPlan}
use Rattle.geom.specs.Extent.{range_of}
use Rattle.geom.proofs.Words.{count_back, position_back}
use Rattle.geom.specs.Plan.{mode_of}
use Rattle.ringcore_laws.specs.declared.party.Party.{Party}
use Rattle.ringcore_laws.specs.declared.party.Settled.{Settled}
use Rattle.ringcore_laws.specs.declared.protocol.Span.{Span}
use Rattle.ringcore_laws.specs.Party.{is_on}
use Rattle.ringcore_laws.specs.RingSide.{RingSide, party_end, greatest, listed, settled_end, side_of, span_count, span_end}
use Rattle.ringcore_laws.specs.Sound.{Sound}
use Rattle.ringcore_laws.specs.History.{own_word, position_of}
use Rattle.ringcore_laws.proofs.Laws.{element, on_own}
use Rattle.ringcore_laws.proofs.RingLaws.{below_or_not, length-listed}
use Rattle.ringcore_laws.proofs.HeadTailLaws.{on_or_off, reserved_tells}
use Rattle.fabric_laws.specs.declared.view.View.{View}
use Rattle.fabric_laws.specs.Rule.{IsConsistent, parties_of_views}
use Rattle.fabric_laws.specs.Words.{own_at, settled_word_at}
use Rattle.fabric_laws.specs.Closing.{IsWhole, LeavesQueue, LiesLeft, reach_of}
use Rattle.fabric_laws.proofs.Alone.{side_alone, sound_alone}
use Rattle.fabric_laws.proofs.Steps.{St, position_base, ring_sound, side_ruled, word_is}
use Rattle.fabric_laws.proofs.Views.{party_here, party_within}

-- if all open spans of a side end at m, and none of its settled spans ends above
module _ (r : ℕ) (side : Side) (m : ℕ) where
  settled_below : {T : Type 0} (xs : List (Settled T)) → ((j : ℕ) (x : Settled T) → get_elem? xs j ≡ some x → x.ring ≡ r → x.side ≡ side
      → x.start + length x.items ≤ m)
      → greatest (settled_end r side) xs ≤ m
  settled_below {T} [] each = omega arith
  settled_below {T} (x ∷ xs) each =
      let rest = settled_below xs (λ j y at. each (suc j) y at) in
      elim (on_or_off x.ring r x.side side) [
        | inl own ↦
            let on : is_on x.ring x.side r side ≡ true = (λ k. is_on x.ring x.side (own.0 k) (own.1 k)) ∙ on_own x.ring x.side in
            let end : settled_end r side x ≡ x.start + length x.items = ap (λ v. if v then x.start + length x.items else 0) on in
            omega (arith, rest, end, each 0 x refl (sym own.0) (sym own.1))
        | inr off ↦
            let end : settled_end r side x ≡ 0 = ap (λ v. if v then x.start + length x.items else 0) off in
            omega (arith, rest, end)
      ]

  abbrev Ends : Option Span → Type 0
  Ends o = (s : Span) → o ≡ Some s → s.ring ≡ r → s.side ≡ side → s.start + s.count ≡ m

  span_ends : (o : Option Span) → Ends o → ((span_count r side o ≡ 0) × (span_end r side o ≡ 0)) ⊎ (span_end r side o ≡ m)
  span_ends None ends = inl (refl, refl)
  span_ends (Some s) ends = elim (on_or_off s.ring r s.side side) [
    | inl own ↦
        let on : is_on s.ring s.side r side ≡ true = (λ k. is_on s.ring s.side (own.0 k) (own.1 k)) ∙ on_own s.ring s.side in
        inr (ap (λ v. if v then s.start + s.count else 0) on ∙ ends s refl (sym own.0) (sym own.1))
    | inr off ↦ inl (ap (λ v. if v then s.count else 0) off, ap (λ v. if v then s.start + s.count else 0) off)
  ]

  record AllEnd {T : Type 0} (views : List (View T)) : Type 0 where
    pub settled : (j : ℕ) (v : View T) → get_elem? views j ≡ some v → greatest (settled_end r side) v.party.settled ≤ m
    pub spans : (j : ℕ) (v : View T) → get_elem? views j ≡ some v → Ends v.party.span

  rest_ends : {T : Type 0} (x : View T) (xs : List (View T)) → AllEnd (x ∷ xs) → AllEnd xs
  rest_ends {T} x xs e = record { settled = λ j v at. e.settled (suc j) v at; spans = λ j v at. e.spans (suc j) v at }

  reaches : {T : Type 0} (views : List (View T)) → AllEnd views
      → ((side_of (parties_of_views views) r side).reach ≤ m)
      × (((side_of (parties_of_views views) r side).open_count ≡ 0) ⊎ (m ≤ (side_of (parties_of_views views) r side).reach))
  unfolding side_of party_end
  reaches {T} [] e = (omega arith, inl refl)
  reaches {T} (x ∷ xs) e =
      let count : Party T → ℕ = λ party. span_count r side party.span in
      let sum = sum_by-cons count x.party (parties_of_views xs) in
      let rest = reaches xs (rest_ends x xs e) in
      let low = e.settled 0 x refl in
      elim (span_ends x.party.span (e.spans 0 x refl)) [
        | inl none ↦ (
          omega (arith, rest.0, low, none.1),
          elim rest.1 [ inl zero' ↦ inl (omega (arith, sum, zero', none.0)) | inr more ↦ inr (omega (arith, more)) ],
        )
        | inr end ↦ (omega (arith, rest.0, low, end), inr (omega (arith, end)))
      ]

module _ {T : Type 0} (tags : T → List ℕ) (plans : List RingPlan) (pool : ℕ) (s : St T) (c : IsConsistent tags plans pool s) where
  abbrev parties : List (Party T)
  parties = parties_of_views s.views

  -- no settled span ends above what is settled
  settled_low : (r : ℕ) (side : Side) (j : ℕ) (v : View T) → get_elem? s.views j ≡ some v
      → greatest (settled_end r side) v.party.settled ≤ (side_of parties r side).len
  settled_low r side j v here =
      settled_below r side (side_of parties r side).len v.party.settled
      (λ k x at on_ring on_side. subst (λ (z : ℕ × Side). x.start + length x.items ≤ (side_of parties z.0 z.1).len) (λ i. (on_ring i, on_side i))
      ((c.views j v here).ends k x at))

  module _ (r : ℕ) (plan : RingPlan) (at : slice_get plans r ≡ Some plan) where
    abbrev puts : RingSide T
    puts = side_of parties r Put

    abbrev takes : RingSide T
    takes = side_of parties r Take

    -- an HTS side is reserved as far as its word shows
    hts_reach : (side : Side) → mode_of plan side ≡ Hts → (side_of parties r side).reach ≡ (side_of parties r side).len + (side_of parties r side).open_count
    hts_reach side hts =
        let l : RingSide T = side_of parties r side in
        let both = reaches r side (l.len + l.open_count) s.views record {
          settled = λ j v here. omega (arith, settled_low r side j v here);
          spans = λ j v here span busy on_ring on_side.
              let busy' : (get_or parties j v.party).span ≡ Some span = ap (λ (p : Party T). p.span) (party_here s.views j v v.party here) ∙ busy in
              let ruled = c.ruled.spans j v.party span (party_within s.views j v here) busy' in
              let known : slice_get plans span.ring ≡ Some plan = ap (slice_get plans) on_ring ∙ at in
              let is = ruled.alone plan known (ap (mode_of plan) on_side ∙ hts) in
              let same : side_of parties span.ring span.side ≡ l = (λ i. side_of parties (on_ring i) (on_side i)) in
              omega (arith, is.0, is.1, ap (λ (z : RingSide T). z.len) same, ap (λ (z : RingSide T). z.open_count) same);
        } in
        let behind = (side_ruled tags plans pool s c r plan at side).behind in
        elim both.1 [ inl none ↦ omega (arith, both.0, behind, none) | inr more ↦ omega (arith, both.0, more) ]

    first_is : reach_of plan.geometry plan.take (get_or s.words (own_at r Take) 0) ≡ takes.reach
    first_is = by_mode plan.take refl
      where
        of_word : (len few : ℕ) → few < range_of plan.geometry → reach_of plan.geometry Hts (len * range_of plan.geometry + few) ≡ len + few
        of_word len few lt = omega (arith, position_back plan.geometry len few lt, count_back plan.geometry len few lt)

        by_mode : (m : Mode) → plan.take ≡ m → reach_of plan.geometry m (get_or s.words (own_at r Take) 0) ≡ takes.reach
        by_mode Multi e = word_is tags plans pool s c r plan at Take ∙ ap (λ m. own_word plan.geometry m takes) e
        by_mode Hts e =
            ap (reach_of plan.geometry Hts) (word_is tags plans pool s c r plan at Take ∙ ap (λ m. own_word plan.geometry m takes) e)
            ∙ (of_word takes.len takes.open_count ((side_ruled tags plans pool s c r plan at Take).small e) ∙ sym (hts_reach Take e))

    end_is : position_of plan.geometry plan.put (get_or s.words (settled_word_at plan.put r Put) 0) ≡ puts.len
    end_is = by_mode plan.put refl
      where
        by_mode : (m : Mode) → plan.put ≡ m → position_of plan.geometry m (get_or s.words (settled_word_at m r Put) 0) ≡ puts.len
        by_mode Multi e = c.words.tail r Put plan at e
        by_mode Hts e =
            ap (position_of plan.geometry Hts) (word_is tags plans pool s c r plan at Put ∙ ap (λ m. own_word plan.geometry m puts) e)
            ∙ position_base plan.geometry Hts puts (λ _. (side_ruled tags plans pool s c r plan at Put).small e)

    pub lies : LiesLeft plans s r plan
    lies =
        let ring = ring_sound tags plans pool s c r plan at in
        let taken = side_ruled tags plans pool s c r plan at Take in
        let put = side_ruled tags plans pool s c r plan at Put in
        record {
          first = first_is;
          end = end_is;
          turn = omega (arith, first_is, end_is, ring.within_capacity, taken.behind);
          last = omega (arith, end_is, put.behind, put.last);
          there = λ p from below.
              let x = element (listed puts) p (omega (arith, below, end_is, length-listed puts ring.published)) in
              let free : takes.openers p ≡ 0 = elim (below_or_not 0 (takes.openers p)) [
                | inl held ↦ absurd (omega (arith, (reserved_tells parties r Take p held).0, from, first_is))
                | inr none ↦ omega (arith, none)
              ] in
              (x.0, x.1, (c.homes r plan at).full p x.0 (omega (arith, from, first_is, taken.behind)) free x.1);
        }

  module _ (id : ℕ) (v : View T) (here : get_elem? s.views id ≡ some v) where
    pub whole : IsWhole tags v
    whole all =
        let told = c.told id v here (omega (arith, all)) in
        subst (λ (n : ℕ). Sound tags v.plans n (v.party ∷ [])) (sym told.1)
        (subst (λ (l : List RingPlan). Sound tags l pool (v.party ∷ [])) (sym told.0) (sound_alone tags plans pool s c id v here all))

    pub leaves : v.party.span ≡ None → (r : ℕ) (plan : RingPlan) → slice_get plans r ≡ Some plan → LeavesQueue s v r
    leaves idle r plan at all =
        let puts = side_alone tags plans pool s c id v here all r Put in
        let takes = side_alone tags plans pool s c id v here all r Take in
        let below = (reaches r Take (side_of parties r Take).len (v ∷ []) record { settled = low; spans = no_span }).0 in
        let behind = (side_ruled tags plans pool s c r plan at Take).behind in
        let same : (side_of parties r Take).reach ≡ (side_of (v.party ∷ []) r Take).len =
        omega (arith, below, behind, ap (λ (l : RingSide T). l.reach) takes, ap (λ (l : RingSide T). l.len) takes) in
        (λ i. drop (same i) (listed (puts i)))
      where
        low : (j : ℕ) (u : View T) → get_elem? (v ∷ []) j ≡ some u → greatest (settled_end r Take) u.party.settled ≤ (side_of parties r Take).len
        low zero u at' =
            subst (λ (w : View T). greatest (settled_end r Take) w.party.settled ≤ (side_of parties r Take).len) (some-injective v u at')
            (settled_low r Take id v here)
        low (suc j) u at' = absurd (some-ne-none u (sym at'))

        no_span : (j : ℕ) (u : View T) → get_elem? (v ∷ []) j ≡ some u → Ends r Take (side_of parties r Take).len u.party.span
        no_span zero u at' span busy = absurd (let e : None ≡ Some span = sym idle ∙ (ap (λ (w : View T). w.party.span) (some-injective v u at') ∙ busy) in cc)
        no_span (suc j) u at' span busy = absurd (some-ne-none u (sym at'))
