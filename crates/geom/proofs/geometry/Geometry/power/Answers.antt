use Rattle.std.proofs.Common.{arith}
use Rattle.geom.proofs.Powers.{power_given, power_refused, next_self, power_extent}
use Rattle.geom.proofs.geometry.Geometry.power.Goals as goal

pub returns-then-next_power_of_two-count-clause-given : goal.returns-then-next_power_of_two-count-clause-given
returns-then-next_power_of_two-count-clause-given c =
    let next = c.next_power_of_two.ensures in
    power_refused c.args.count c.next_power_of_two.result (omega arith) (omega arith) next.power next.lower_bound next.upper_bound
    c.if-next_power_of_two-count.true

pub returns-then-next_power_of_two-count-clause-power : goal.returns-then-next_power_of_two-count-clause-power
returns-then-next_power_of_two-count-clause-power c = λ _ own.
    let next = c.next_power_of_two.ensures in
    c.if-next_power_of_two-count.true
    (next_self c.args.count c.next_power_of_two.result (omega arith) next.power next.lower_bound next.upper_bound own)

pub returns-clause-given : goal.returns-clause-given
returns-clause-given c =
    let next = c.next_power_of_two.ensures in
    power_given c.args.count c.next_power_of_two.result (omega arith) (omega arith) next.power next.lower_bound next.upper_bound
    c.if-next_power_of_two-count.false

pub invariant_of-result : goal.invariant_of-result
invariant_of-result c =
    let next = c.next_power_of_two.ensures in
    power_extent c.args.count c.next_power_of_two.result (omega arith) (omega arith) next.power c.if-next_power_of_two-count.false
