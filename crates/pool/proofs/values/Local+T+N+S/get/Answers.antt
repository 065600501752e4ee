use Rattle.pool.proofs.ByValue.{gets, gets_none}
use Rattle.pool.proofs.values.Local+T+N+S.get.Goals as goal

pub returns-in-Ok-clause-exact : goal.returns-in-Ok-clause-exact
returns-in-Ok-clause-exact g c plan there =
    gets g.T.Tagged.numbers plan c.args.self.now c.get_into.new.self tt c.get_into.new.into c.args.n c.get_into.new.into (c.in-Ok.ensures.exact plan there)

pub returns-in-Err-clause-exact : goal.returns-in-Err-clause-exact
returns-in-Err-clause-exact g c plan there =
    gets_none g.T.Tagged.numbers plan c.args.self.now c.get_into.new.self _ _ c.in-Err.fault c.args.n c.get_into.new.into (c.in-Err.ensures.exact plan there)
