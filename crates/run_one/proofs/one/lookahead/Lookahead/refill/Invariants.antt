use Rattle.std.proofs.Common.{◌-◌, ◌≤◌}
use Rattle.run_one.proofs.one.lookahead.Lookahead.refill.Given as goal

abbrev pub invariant-loop-len : goal.invariant-loop-len
invariant-loop-len l = l.len ≤ 64

abbrev pub decreases-loop-len : goal.decreases-loop-len
decreases-loop-len l = 64 - l.len
