use Rattle.std.proofs.Common.{◌≡◌, ◌-◌, ◌++◌, length, take, drop, replicate, None}
use Rattle.burst.proofs.cells.Cells.append.Given as goal

abbrev pub invariant-loop-i : goal.invariant-loop-i
invariant-loop-i g l = record {
  moved : l.self ≡ l.fn.self ++ (take l.i l.fn.other ++ replicate (length l.fn.other - l.i) None);
  left : l.other ≡ replicate l.i None ++ drop l.i l.fn.other;
}
