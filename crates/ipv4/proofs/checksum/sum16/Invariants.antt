use Rattle.std.proofs.Common.{length}
use Rattle.ipv4.proofs.SumSteps.{IsSummed}
use Rattle.ipv4.proofs.checksum.sum16.Given as goal

abbrev pub invariant-loop-rest : goal.invariant-loop-rest
invariant-loop-rest l = IsSummed l.bytes l.rest l.total

abbrev pub decreases-loop-rest : goal.decreases-loop-rest
decreases-loop-rest l = length l.rest
