use Rattle.std.proofs.Common.{rules, arith}
use Rattle.stages.proofs.threads.reader.dismiss.Goals as goal

pub send-requires-2 : goal.send-requires-2
send-requires-2 g c = (
  search rules,
  (omega arith, ((λ h same b. omega (arith, c.loop-i.invariant.none b)), λ is. absurd (omega (arith, is)))),
)
