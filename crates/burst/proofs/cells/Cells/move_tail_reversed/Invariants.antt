use Rattle.std.proofs.Common.{◌≡◌, ◌-◌, ◌++◌, length, take, drop, reverse, replicate, None}
use Rattle.burst.proofs.cells.Cells.move_tail_reversed.Given as goal

abbrev pub invariant-loop-i : goal.invariant-loop-i
invariant-loop-i g l = record {
  moved : l.to ≡ l.fn.to ++ (take l.i (reverse (drop l.k l.fn.self)) ++ replicate (length (reverse (drop l.k l.fn.self)) - l.i) None);
  left : l.self ≡ take (length l.fn.self - l.i) l.fn.self ++ replicate l.i None;
}
