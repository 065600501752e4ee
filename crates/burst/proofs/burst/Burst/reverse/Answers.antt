use Rattle.burst.proofs.Items.{held, full, seen, turned}
use Rattle.burst.proofs.burst.Burst.reverse.Goals as goal

pub invariant_of-self : goal.invariant_of-self
invariant_of-self g c = full _ _ (turned _ _ _ (held _ _ c.self.invariant c.self.view_is) c.reverse.ensures)

pub returns : goal.returns
returns g c = seen _ _ (turned _ _ _ (held _ _ c.self.invariant c.self.view_is) c.reverse.ensures)
