use Rattle.std.proofs.Common.{rules, subst, take}
use Rattle.fabric.specs.Hands.{view}
use Rattle.pool_laws.specs.Requests.{Refills}
use Rattle.pool.proofs.words.refill_slice.Goals as goal

pub returns-clause-exact : goal.returns-clause-exact
returns-clause-exact g c plan there =
    subst (λ w. Refills g.T.Tagged.numbers g.row.N c.args.ring plan c.args.size (view c.args.hand) c.args.missing c.refill-answer.result
    (take c.refill-answer.new.into.count w)) (search rules) (c.refill-answer.ensures.exact plan there)
