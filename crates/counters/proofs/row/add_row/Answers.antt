use Rattle.std.proofs.Common.{arith}
use Rattle.counters.proofs.Adding.{place-le-sum, added_by_place}
use Rattle.counters.proofs.row.add_row.Goals as goal

pub overflow_add-row : goal.overflow_add-row
overflow_add-row c =
    omega (
      arith,
      place-le-sum c.args.row.now c.args.n c.loop-i.i (omega arith) (omega arith),
      place-le-sum c.args.other.now c.args.n c.loop-i.i (omega arith) (omega arith),
      c.loop-i.invariant.above c.loop-i.i (omega arith),
    )

pub returns : goal.returns
returns c =
    added_by_place c.loop-i.row c.args.row.now c.args.other.now c.args.n (omega arith) (omega arith)
    (λ k below. c.loop-i.invariant.below k (omega arith))
