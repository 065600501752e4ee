use Rattle.std.proofs.Common.{◌-◌, vec_len, All}
use Rattle.live_value.specs.Lines.{IsShown}
use Rattle.live_value.proofs.line.sweep.Given as goal

abbrev pub invariant-loop-i : goal.invariant-loop-i
invariant-loop-i g l = All (IsShown l.history l.behind) l.lines.items

abbrev pub decreases-loop-i : goal.decreases-loop-i
decreases-loop-i g l = vec_len l.lines - l.i
