-- What a hand knows stays true as the sides of the rings move on
use Rattle.std.proofs.Common.{◌≡◌, ℕ, zero, suc, ◌+◌, ◌≤◌, List, [], ◌∷◌, ◌++◌, length, take, drop, sym, refl, ap, ◌∙◌, le_trans, arith}
use Rattle.std.specs.Prelude.{slice_get, Some}
use Rattle.geom.specs.declared.plan.Side.{Side}
use Rattle.geom.specs.declared.plan.Side.TheVariants.{Put, Take}
use Rattle.geom.specs.declared.plan.RingPlan.{RingPlan}
use Rattle.geom.specs.Plan.{mode_of}
use Rattle.ringcore_laws.specs.declared.party.Party.{Party}
use Rattle.ringcore_laws.specs.declared.protocol.Observed.{Observed}
use Rattle.ringcore_laws.specs.declared.protocol.Span.{Span}
use Rattle.ringcore_laws.specs.RingSide.{side_of, listed}
use Rattle.ringcore_laws.specs.HeadTailRule.{base}
use Rattle.ringcore_laws.specs.History.{other_side}
use Rattle.ringcore_laws.specs.Invariant.{IsBehind, TrueObserved}
use Rattle.fabric_laws.specs.declared.view.View.{View}
use Rattle.fabric_laws.specs.Rule.{IsTrueView}

module _ {T : Type 0} where
  -- no side goes back, and what is published stays
  pub record GoOn (plans : List RingPlan) (before after : List (Party T)) : Type 0 where
    pub len : (r : ℕ) (side : Side) → (side_of before r side).len ≤ (side_of after r side).len
    pub base : (r : ℕ) (side : Side) (plan : RingPlan) → slice_get plans r ≡ Some plan
        → base (mode_of plan side) (side_of before r side) ≤ base (mode_of plan side) (side_of after r side)
    pub more : (r : ℕ) (plan : RingPlan) → slice_get plans r ≡ Some plan → (items : List T)
        × (listed (side_of after r Put) ≡ listed (side_of before r Put) ++ items)

  pub take_within : (n : ℕ) (xs ys : List T) → n ≤ length xs → take n (xs ++ ys) ≡ take n xs
  take_within zero xs ys le = refl
  take_within (suc n) [] ys le = absurd (omega arith)
  take_within (suc n) (x ∷ xs) ys le = ap (λ l. x ∷ l) (take_within n xs ys (omega arith))

  pub piece_stays : (start n : ℕ) (xs ys : List T) → start + n ≤ length xs → take n (drop start (xs ++ ys)) ≡ take n (drop start xs)
  piece_stays zero n xs ys le = take_within n xs ys (omega arith)
  piece_stays (suc start) n [] ys le = absurd (omega arith)
  piece_stays (suc start) n (x ∷ xs) ys le = piece_stays start n xs ys (omega arith)

  pub observed_on : (plans : List RingPlan) (before after : List (Party T)) (o : Observed) → GoOn plans before after
      → TrueObserved plans before o × IsBehind plans before o → TrueObserved plans after o × IsBehind plans after o
  observed_on plans before after o on k = (
    record {
      known = k.0.known;
      whole = k.0.whole;
      tail_seen = λ t e. le_trans (k.0.tail_seen t e) (on.len o.ring (other_side o.side));
    },
    λ plan at. le_trans (k.1 plan at) (on.base o.ring o.side plan at),
  )

  -- a span whose positions are published on its ring
  pub record IsWithin (plans : List RingPlan) (parties : List (Party T)) (span : Span) : Type 0 where
    pub plan : RingPlan
    pub there : slice_get plans span.ring ≡ Some plan
    pub published : span.start + span.count ≤ length (listed (side_of parties span.ring Put))

  -- for a hand whose open take span is within what is published
  pub true_on : (plans : List RingPlan) (before after : List (Party T)) (v : View T) → GoOn plans before after
      → ((span : Span) → v.party.span ≡ Some span → span.side ≡ Take → IsWithin plans before span)
      → IsTrueView plans before v → IsTrueView plans after v
  true_on plans before after v on within k = record {
    observed = λ o e. observed_on plans before after o on (k.observed o e);
    shown = λ span busy taking.
        let inside = within span busy taking in
        let more = on.more span.ring inside.plan inside.there in
        k.shown span busy taking
        ∙ (sym (piece_stays span.start span.count (listed (side_of before span.ring Put)) more.0 inside.published)
        ∙ ap (λ l. take span.count (drop span.start l)) (sym more.1));
    ends = λ j x e. le_trans (k.ends j x e) (on.len x.ring x.side);
  }
