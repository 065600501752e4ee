-- Reservations stay in order when a newcomer comes and when two parties become one
use Rattle.std.proofs.Common.{ℕ, ◌<◌, ◌≢◌, ◌≡◌, List, [], ◌∷◌, ◌++◌, length, ap, sym, subst, ◌∙◌, arith}
use Rattle.std.specs.Prelude.{slice_get, slice_set, slice_index_or, Some, None}
use Rattle.geom.specs.declared.plan.Side.{Side}
use Rattle.geom.specs.declared.plan.Side.TheVariants.{Put, Take}
use Rattle.geom.specs.declared.plan.RingPlan.{RingPlan}
use Rattle.geom.specs.Plan.{mode_of}
use Rattle.ringcore_laws.specs.declared.protocol.Span.{Span}
use Rattle.ringcore_laws.specs.declared.party.Party.{Party}
use Rattle.ringcore_laws.specs.Party.{newcomer, joined}
use Rattle.ringcore_laws.specs.RingSide.{RingSide, side_of}
use Rattle.ringcore_laws.specs.Sound.{Sound}
use Rattle.ringcore_laws.specs.HeadTailRule.{HeadTailRule, RuledSide, RuledSpan}
use Rattle.ringcore_laws.proofs.Lists.{each_set, each_push}
use Rattle.ringcore_laws.proofs.SideLaws.{side_of_newcomer}
use Rattle.ringcore_laws.proofs.Laws.{element, joined_by, joined_sides}

module _ {I : Type 0} where
  -- if each side is as before, so are the spans
  span_as : (plans : List RingPlan) (before after : List (Party I)) (s : Span) → ((side : Side) → side_of after s.ring side ≡ side_of before s.ring side)
      → RuledSpan plans before s → RuledSpan plans after s
  span_as plans before after s same o = record {
    positive = o.positive;
    known = o.known;
    alone = λ plan h hts.
        let old = o.alone plan h hts in
        (old.0 ∙ ap (λ (v : RingSide I). v.len) (sym (same s.side)), old.1 ∙ ap (λ (v : RingSide I). v.open_count) (sym (same s.side)));
  }

  orderly_as : (plans : List RingPlan) (before after : List (Party I)) → HeadTailRule plans before
      → ((r : ℕ) (plan : RingPlan) (side : Side) → slice_get plans r ≡ Some plan → side_of after r side ≡ side_of before r side)
      → ((k : ℕ) (d : Party I) → k < length after → (s : Span) → (slice_index_or after k d).span ≡ Some s → RuledSpan plans before s) → HeadTailRule plans after
  orderly_as plans before after o same spans = record {
    sides = λ r side plan h. subst (λ (v : RingSide I). RuledSide plan.geometry (mode_of plan side) v) (sym (same r plan side h)) (o.sides r side plan h);
    room = λ r plan h. omega (
      arith,
      o.room r plan h,
      ap (λ (v : RingSide I). v.reach) (same r plan Put h),
      ap (λ (v : RingSide I). v.len) (same r plan Take h),
    );
    spans = λ k d s lt busy.
        let old = spans k d lt s busy in
        let plan = element plans s.ring old.known in
        span_as plans before after s (λ side. same s.ring plan.0 side plan.1) old;
  }

  pub orderly_newcomer : (plans : List RingPlan) (parties : List (Party I)) → HeadTailRule plans parties → HeadTailRule plans (parties ++ newcomer [] ∷ [])
  orderly_newcomer plans parties o =
      orderly_as plans parties (parties ++ newcomer [] ∷ []) o (λ r plan side h. side_of_newcomer parties [] r side)
      (each_push (λ (party : Party I). (s : Span) → party.span ≡ Some s → RuledSpan plans parties s) parties (newcomer [])
      (λ j e lt s busy. o.spans j e s lt busy) (λ s busy. absurd (let u : None ≡ Some s = busy in cc)))

  pub orderly_joined : (tags : I → List ℕ) (plans : List RingPlan) (pool : ℕ) (parties : List (Party I)) (i j : ℕ) (d : Party I) → Sound tags plans pool parties
      → HeadTailRule plans parties → i < length parties → j < length parties → j ≢ i
      → (slice_index_or parties i d).span ≡ None → (slice_index_or parties j d).span ≡ None → HeadTailRule plans (joined_by tags parties i j d)
  orderly_joined tags plans pool parties i j d sound o at_i at_j apart idle_i idle_j =
      orderly_as plans parties (joined_by tags parties i j d) o same
      (each_set (λ (party : Party I). (s : Span) → party.span ≡ Some s → RuledSpan plans parties s)
      (slice_set parties i (joined (slice_index_or parties i d) (slice_index_or parties j d))) j (newcomer [])
      (each_set (λ (party : Party I). (s : Span) → party.span ≡ Some s → RuledSpan plans parties s) parties i
      (joined (slice_index_or parties i d) (slice_index_or parties j d)) (λ k e lt s busy. o.spans k e s lt busy)
      (λ s busy. absurd (let u : None ≡ Some s = busy in cc)))
      (λ s busy. absurd (let u : None ≡ Some s = busy in cc)))
    where
      same : (r : ℕ) (plan : RingPlan) (side : Side) → slice_get plans r ≡ Some plan → side_of (joined_by tags parties i j d) r side ≡ side_of parties r side
      same r plan side h = joined_sides tags plans pool parties i j d r plan side sound h at_i at_j apart idle_i idle_j
