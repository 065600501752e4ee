use Rattle.ringapi.proofs.Taking.{plan_of}
use Rattle.ringapi.proofs.peek_slices.peek_take_slice.Goals as goal

pub invariant_of-result : goal.invariant_of-result
invariant_of-result g c = record {
  hts = c.requires.hts c.in-Ok.span.ring.shape.now.plan (plan_of c.in-Ok.span c.args.f.now c.args.ring c.in-Ok.ensures.started.0 c.in-Ok.ensures.started.1);
}
