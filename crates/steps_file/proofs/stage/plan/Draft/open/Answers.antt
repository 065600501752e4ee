use Rattle.std.proofs.Common.{◌≡◌, Err, rules}
use Rattle.ringcore.specs.declared.plan.WorldFault.TheVariants.{BadPlan}
use Rattle.steps_file.specs.Plans.{named}
use Rattle.steps_file.proofs.Gifts.{unlawful_gifts}
use Rattle.steps_file.proofs.stage.plan.Draft.open.Goals as goal

pub returns-in_err-gifts-clause-unlawful : goal.returns-in_err-gifts-clause-unlawful
returns-in_err-gifts-clause-unlawful c = λ bad lawful.
    let refused : c.opening_gifts.result ≡ Err BadPlan = search rules in
    unlawful_gifts (named c.args.self.now) c.as_slice-2.result.now c.as_slice-2.ensures.value (c.opening_gifts.ensures.bad refused) lawful
