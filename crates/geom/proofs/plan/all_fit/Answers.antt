use Rattle.std.proofs.Common.{inl, inr, true, false, refl, ◌≡◌, ◌∙◌, ap, sym, subst, arith}
use Rattle.std.specs.Prelude.{slice_get, Some}
use Rattle.std.proofs.lemmas.Option.{get_or_from_slice_get, slice_get_within}
use Rattle.geom.specs.declared.plan.RingPlan.{RingPlan}
use Rattle.geom.proofs.Lists.{element, same_or_not}
use Rattle.geom.specs.Fit.{Fits}
use Rattle.geom.proofs.plan.all_fit.Goals as goal

pub loop-plan-init : goal.loop-plan-init
loop-plan-init c = λ r plan lt is. absurd (omega (arith, lt))

pub returns-then-not-fits : goal.returns-then-not-fits
returns-then-not-fits c = (
  (λ never. absurd (let h : false ≡ true = never in cc)),
  (λ all.
      let x = element c.args.rings.now c.loop-plan.plan-index c.loop-plan-test.true in
      let same : x.0 ≡ c.plan-item.result = sym (c.plan-item.is ∙ get_or_from_slice_get c.args.rings.now c.loop-plan.plan-index x.0 c.plan-item.result x.1) in
      c.if-not-fits.ensures.1 (subst (λ (v : RingPlan). Fits v c.args.buffers c.args.longest) same (all c.loop-plan.plan-index x.0 x.1))),
)

pub loop-plan-preserved : goal.loop-plan-preserved
loop-plan-preserved c = λ r plan lt is. elim (same_or_not r c.loop-plan.plan-index) [
  | inl same ↦
      let there : slice_get c.args.rings.now c.loop-plan.plan-index ≡ Some plan = ap (slice_get c.args.rings.now) (sym same) ∙ is in
      let item : c.plan-item.result ≡ plan = c.plan-item.is ∙ get_or_from_slice_get c.args.rings.now c.loop-plan.plan-index plan c.plan-item.result there in
      subst (λ (v : RingPlan). Fits v c.args.buffers c.args.longest) item (c.if-not-fits.ensures.0 refl)
  | inr apart ↦ c.loop-plan.invariant r plan (omega (arith, lt, apart)) is
]

pub returns : goal.returns
returns c = (
  (λ yes_. λ r plan is. c.loop-plan.invariant r plan (omega (arith, slice_get_within c.args.rings.now r plan is, c.loop-plan-test.false)) is),
  (λ all. refl),
)
