use Rattle.std.proofs.Common.{arith}
use Rattle.stages.proofs.threads.segments.give_back.Goals as goal

pub returns-clause-kept : goal.returns-clause-kept
returns-clause-kept g c others had h same b = omega (arith, c.send-given.ensures.kept others had h same b)
