use Rattle.std.proofs.Common.{List, ap, slice_get, sym, ◌∙◌}
use Rattle.geom.specs.declared.plan.RingPlan.{RingPlan}
use Rattle.capi.proofs.Asking.{plain_asked, refuses}
use Rattle.capi.proofs.rings.making.open.Goals as goal

pub first_member-requires-clause-plain : goal.first_member-requires-clause-plain
first_member-requires-clause-plain c ring plan at =
    plain_asked c.args.asked.now c.in_ok-plans.plans.items c.in_ok-plans.ensures.made ring plan
    (ap (λ (xs : List RingPlan). slice_get xs ring) (sym c.in-Ok-fabric_of.ensures.made.0) ∙ at)

pub returns-in-Err-clause-refused : goal.returns-in-Err-clause-refused
returns-in-Err-clause-refused c =
    refuses c.args.asked.now c.in_ok-plans.plans.items c.in-Err.why c.in_ok-plans.ensures.made c.in-Err.ensures.refused
