use Rattle.std.proofs.Common.{◌≡◌, ◌∙◌, ℕ, List, length, true, false, ap, arith, refl, subst, sym}
use Rattle.geom.specs.declared.plan.RingPlan.{RingPlan}
use Rattle.geom.specs.Fit.{AllFitAny}
use Rattle.std.specs.Prelude.{nat_lt}
use Rattle.std.specs.List.{list_all}
use Rattle.ringcore.proofs.OpeningSteps.{all_below, each_below}
use Rattle.ringcore.proofs.plan.WorldPlan.is_valid.Goals as goal

pub returns-then-not-are_below : goal.returns-then-not-are_below
returns-then-not-are_below c = (
  (λ never. absurd (let h : false ≡ true = never in cc)),
  (λ plan. c.if-not-are_below.ensures ∙ (ap (list_all (λ g. nat_lt g c.args.self.now.actors)) c.deref.ensures.value
      ∙ all_below c.args.self.now.actors c.args.self.now.gifts.items plan.to_actors)),
)

pub returns : goal.returns
returns c =
    let plans = c.args.self.now.rings.items in
    let gifts = c.args.self.now.gifts.items in
    let many : length gifts ≡ c.len-3.result = ap length (sym c.deref.ensures.value) ∙ c.deref.ensures.len ∙ sym c.len-3.ensures in
    let few = c.if-not-are_few.ensures.0 refl in
    let rings : c.deref-2.result.now ≡ plans = c.deref-2.ensures.value in
    let rings_many : length plans ≡ c.len.result = ap length (sym rings) ∙ c.deref-2.ensures.len ∙ sym c.len.ensures in (
      λ yes. record {
        some_ring = omega (arith, few.some_ring, rings_many);
        few_rings = omega (arith, few.few_rings, rings_many);
        some_actor = few.some_actor;
        few_actors = few.few_actors;
        few_buffers = omega (arith, few.few_buffers, many, c.len-2.ensures, c.len-3.ensures);
        to_actors = each_below c.args.self.now.actors gifts (sym (ap (list_all (λ g. nat_lt g c.args.self.now.actors)) c.deref.ensures.value) ∙ sym c.if-not-are_below.ensures);
        rings = subst (λ (z : List RingPlan × ℕ). AllFitAny z.0 z.1) (λ i. (rings i, sym many i)) (c.all_fit.ensures.0 yes);
      },
      λ plan. c.all_fit.ensures.1 (subst (λ (z : List RingPlan × ℕ). AllFitAny z.0 z.1) (λ i. (sym rings i, many i)) plan.rings),
    )
