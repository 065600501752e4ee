use Rattle.live_value.proofs.Shown.{BehindUpTo}
use Rattle.live_value.proofs.line.fall_behind.Given as goal

abbrev pub invariant-loop-i : goal.invariant-loop-i
invariant-loop-i g l = BehindUpTo l.before l.value l.lines l.i
