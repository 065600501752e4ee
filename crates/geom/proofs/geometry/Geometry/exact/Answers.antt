use Rattle.std.proofs.Common.{arith}
use Rattle.geom.proofs.Powers.{next_extent, exact_given}
use Rattle.geom.proofs.geometry.Geometry.exact.Goals as goal

pub invariant_of-result : goal.invariant_of-result
invariant_of-result c =
    let next = c.next_power_of_two.ensures in
    let some = c.if-capacity-eq0.false in
    next_extent c.args.capacity c.next_power_of_two.result (omega arith) (omega arith) next.power next.lower_bound next.upper_bound

pub returns : goal.returns
returns c =
    let next = c.next_power_of_two.ensures in
    exact_given c.args.capacity c.next_power_of_two.result c.if-capacity-eq0.false (omega arith) next.power next.lower_bound next.upper_bound
