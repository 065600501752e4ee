use Rattle.std.proofs.Common.{◌≡◌, length, reverse, take}
use Rattle.pool.proofs.stack_moves.copy_reversed.Given as goal

abbrev pub invariant-loop-i : goal.invariant-loop-i
invariant-loop-i g l = (length l.into ≡ length l.fn.into) × (take l.i l.into ≡ take l.i (reverse l.from))
