use Rattle.std.proofs.Common.{subst, rules}
use Rattle.std.specs.Bool.{OnTrue, OnFalse}
use Rattle.lpm.specs.Prefixes.{Members}
use Rattle.lpm.specs.Between.{SomeBetween, NoneBetween}
use Rattle.lpm.proofs.Spans.{range_found, range_empty}
use Rattle.lpm.proofs.members.Members.has_between.Goals as goal

pub returns-clause-found : goal.returns-clause-found
returns-clause-found c =
    let is = rw (c.new.ensures.start, c.new.ensures.end) at (c.range.ensures.in_range (search rules)) in
    subst (λ (m : Members). OnTrue c.is_some.result (SomeBetween m c.args.low c.args.high)) c.self.view_is
    (range_found c.self.inside.hops c.args.low c.args.high _ _ is c.next.result c.is_some.result c.next.ensures.steps c.is_some.ensures)

pub returns-clause-none : goal.returns-clause-none
returns-clause-none c =
    let is = rw (c.new.ensures.start, c.new.ensures.end) at (c.range.ensures.in_range (search rules)) in
    subst (λ (m : Members). OnFalse c.is_some.result (NoneBetween m c.args.low c.args.high)) c.self.view_is
    (range_empty c.self.inside.hops c.args.low c.args.high _ _ is c.next.result c.is_some.result c.next.ensures.steps c.is_some.ensures)
