use Rattle.std.proofs.Common.{◌≡◌, ◌+◌, length}
use Rattle.burst.proofs.burst.Burst.clear.Given as goal

abbrev pub invariant-loop-i : goal.invariant-loop-i
invariant-loop-i g l = length l.self + l._i ≡ length l.fn.self
