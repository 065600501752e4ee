use Rattle.std.proofs.Common.{◌≤◌, length}
use Rattle.stages.proofs.threads.reader.put_with.Given as goal

abbrev pub invariant-loop-i : goal.invariant-loop-i
invariant-loop-i g l = length l.list ≤ l._i
