use Rattle.lpm.specs.Overwrite.{OverwritesFrom}
use Rattle.lpm.proofs.overwrite.overwrite.Given as goal

abbrev pub invariant-loop-i : goal.invariant-loop-i
invariant-loop-i l = OverwritesFrom l.fn.entries l.entries l.from l.i l.depth l.entry
