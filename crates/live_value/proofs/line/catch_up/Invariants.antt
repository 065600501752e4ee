use Rattle.std.proofs.Common.{◌≡◌, true, All}
use Rattle.live_value.specs.Lines.{IsShown}
use Rattle.live_value.proofs.Shown.{DoneUpTo}
use Rattle.live_value.proofs.line.catch_up.Given as goal

abbrev pub invariant-loop-i : goal.invariant-loop-i
invariant-loop-i g l = All (IsShown l.history true) l.lines × (l.done ≡ true → DoneUpTo l.lines l.i)
