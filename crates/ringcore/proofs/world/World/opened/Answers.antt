use Rattle.std.proofs.Common.{◌≡◌, ◌∙◌, ℕ, List, ap, length, map, subst, sym}
use Rattle.geom.specs.declared.plan.RingPlan.{RingPlan}
use Rattle.ringcore_laws.specs.History.{opening}
use Rattle.ringcore_laws.specs.declared.protocol.Place.{Place}
use Rattle.ringcore_laws.specs.declared.protocol.Place.TheVariants.{Held}
use Rattle.ringcore.specs.Agree.{ListsAgree}
use Rattle.ringcore.specs.Opening.{AreFresh, AreGiven}
use Rattle.ringcore.specs.Planned.{rings_in}
use Rattle.ringcore.proofs.OpeningSteps.{opening_agrees, plan_right}
use Rattle.ringcore.proofs.world.World.opened.Goals as goal

pub returns : goal.returns
returns c =
    let plan = c.args.plan in
    let gifts = plan.gifts.items in
    let rings = rings_in c.in_ok-rings.rings.items in
    let members = c.in_ok-members.members.items in
    let is : c.in_ok-places.places.items ≡ map (λ g. Held g) gifts = c.in_ok-places.ensures ∙ ap (map (λ g. Held g)) c.deref-3.ensures.value in
    let plans : c.deref.result.now ≡ plan.rings.items = c.deref.ensures.value in
    let named : c.deref-2.result.now ≡ gifts = c.deref-2.ensures.value in (
      record {
        plans = c.in_ok-rings.ensures.plans ∙ plans;
        lists =
            subst (λ (v : List Place). ListsAgree plan.rings.items (length gifts) rings v members (opening plan.actors gifts)) (sym is)
            (opening_agrees plan.rings.items plan.actors gifts rings members (c.in_ok-rings.ensures.count ∙ ap length plans)
            (subst (λ (v : List RingPlan). AreFresh v rings) plans c.in_ok-rings.ensures.fresh) c.in_ok-members.ensures.count
            (subst (λ (v : List ℕ). AreGiven v members) named c.in_ok-members.ensures.given) c.requires.to_actors);
      },
      plan_right plan c.requires,
    )
