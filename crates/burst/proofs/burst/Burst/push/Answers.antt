use Rattle.burst.proofs.Items.{held, full, seen, pushed}
use Rattle.burst.proofs.burst.Burst.push.Goals as goal

pub invariant_of-self : goal.invariant_of-self
invariant_of-self g c = full _ _ (pushed _ _ _ _ (held _ _ c.self.invariant c.self.view_is) c.push.ensures)

pub returns : goal.returns
returns g c = seen _ _ (pushed _ _ _ _ (held _ _ c.self.invariant c.self.view_is) c.push.ensures)
