use Rattle.lpm.specs.Overwrite.{FillsFrom}
use Rattle.lpm.proofs.overwrite.fill.Given as goal

abbrev pub invariant-loop-i : goal.invariant-loop-i
invariant-loop-i l = FillsFrom l.fn.entries l.entries l.from l.i l.entry
