use Rattle.std.proofs.Common.{◌≡◌, take, false}
use Rattle.stages.specs.Judging.{has_mark}
use Rattle.stages.proofs.threads.worker.first_part.Given as goal

abbrev pub invariant-loop-i : goal.invariant-loop-i
invariant-loop-i g l = has_mark (take l.i l.items) ≡ false
