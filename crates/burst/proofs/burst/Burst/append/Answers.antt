use Rattle.burst.proofs.Items.{appended, full, held, seen}
use Rattle.burst.proofs.burst.Burst.append.Goals as goal

pub invariant_of-self : goal.invariant_of-self
invariant_of-self g c =
    full _ _ (appended _ _ _ _ _ (held _ _ c.self.invariant c.self.view_is) (held _ _ c.other.invariant c.other.view_is) c.append.ensures.moved)

pub returns-clause-moved : goal.returns-clause-moved
returns-clause-moved g c =
    seen _ _ (appended _ _ _ _ _ (held _ _ c.self.invariant c.self.view_is) (held _ _ c.other.invariant c.other.view_is) c.append.ensures.moved)
