use Rattle.std.proofs.Common.{inr}
use Rattle.pool.proofs.bursts.empty.Goals as goal

pub returns-in-Ok-clause-exact : goal.returns-in-Ok-clause-exact
returns-in-Ok-clause-exact g c plan there = (c.in-Ok.ensures.done, inr (c.in-Ok.ensures.exact plan there))

pub returns-in-Err-clause-exact : goal.returns-in-Err-clause-exact
returns-in-Err-clause-exact g c plan there = (c.in-Err.ensures.back, c.in-Err.ensures.exact plan there)
