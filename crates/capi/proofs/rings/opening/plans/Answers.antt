use Rattle.std.proofs.Common.{inl, refl, ◌∙◌}
use Rattle.capi.proofs.Asking.{some_asked}
use Rattle.capi.proofs.rings.opening.plans.Goals as goal

-- src/opening.rt:65:13
pub returns-in_default-plan-clause-refused : goal.returns-in_default-plan-clause-refused
returns-in_default-plan-clause-refused c = inl (
  refl,
  λ plans are.
      let found = some_asked c.args.asked.now c.loop-i.i _ plans c.loop-i-test.true are in
      c.in_default-plan.not-Some found.0 (c.plan.ensures ∙ found.1),
)
