use Rattle.burst.proofs.Items.{first, full, held, poured, seen}
use Rattle.burst.proofs.burst.Burst.move_tail_reversed.Goals as goal

pub invariant_of-self : goal.invariant_of-self
invariant_of-self g c = full _ _ (first c.args.k _ _ _ (held _ _ c.self.invariant c.self.view_is) c.move_tail_reversed.ensures.left)

pub invariant_of-to : goal.invariant_of-to
invariant_of-to g c =
    full _ _ (poured c.args.k _ _ _ _ _ (held _ _ c.self.invariant c.self.view_is) (held _ _ c.to.invariant c.to.view_is) c.move_tail_reversed.ensures.moved)

pub returns-clause-left : goal.returns-clause-left
returns-clause-left g c = seen _ _ (first c.args.k _ _ _ (held _ _ c.self.invariant c.self.view_is) c.move_tail_reversed.ensures.left)

pub returns-clause-moved : goal.returns-clause-moved
returns-clause-moved g c =
    seen _ _ (poured c.args.k _ _ _ _ _ (held _ _ c.self.invariant c.self.view_is) (held _ _ c.to.invariant c.to.view_is) c.move_tail_reversed.ensures.moved)
