use Rattle.std.proofs.Common.{◌∙◌}
use Rattle.ringapi.proofs.Taking.{plan_of}
use Rattle.ringapi.proofs.peek.peek_take_into.Goals as goal

pub invariant_of-result : goal.invariant_of-result
invariant_of-result g c = record {
  hts = c.requires.hts c.in-Ok.span.ring.shape.now.plan (plan_of c.in-Ok.span c.args.f.now c.args.ring c.in-Ok.ensures.started.0 c.in-Ok.ensures.started.1);
}

pub returns-in-Err-clause-refused : goal.returns-in-Err-clause-refused
returns-in-Err-clause-refused g c =
    let e = c.in-Err.ensures in
    (e.refused.0, e.refused.1 ∙ c.requires.empty, e.refused.2)
