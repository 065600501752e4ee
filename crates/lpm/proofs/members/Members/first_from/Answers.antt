use Rattle.std.proofs.Common.{subst, rules}
use Rattle.std.specs.Map.Iter.{deref_pair}
use Rattle.lpm.specs.Prefixes.{Members}
use Rattle.lpm.specs.Listing.{IsFirstFrom, NoneFrom}
use Rattle.lpm.proofs.Walks.{first_shown, none_shown}
use Rattle.lpm.proofs.members.Members.first_from.Goals as goal

pub returns-in-Some-clause-found : goal.returns-in-Some-clause-found
returns-in-Some-clause-found c =
    subst (λ (m : Members). IsFirstFrom m c.args.low c.in-Some.prefix.now c.in-Some.hop.now) c.self.view_is
    (first_shown c.self.inside.hops c.args.low _ _ (c.range.ensures.in_range (search rules)) (deref_pair (c.in-Some.prefix, c.in-Some.hop))
    c.in-Some.ensures.steps)

pub returns-in-None-clause-none : goal.returns-in-None-clause-none
returns-in-None-clause-none c =
    subst (λ (m : Members). NoneFrom m c.args.low) c.self.view_is
    (none_shown c.self.inside.hops c.args.low _ c.range.result (c.range.ensures.in_range (search rules)) c.in-None.ensures.steps.0)
