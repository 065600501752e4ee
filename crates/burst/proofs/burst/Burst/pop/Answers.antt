use Rattle.std.proofs.Common.{sym, ◌∙◌}
use Rattle.burst.proofs.Items.{held, full, popped, popped_items, popped_variant, popped_there}
use Rattle.burst.proofs.burst.Burst.pop.Goals as goal

pub invariant_of-self-2 : goal.invariant_of-self-2
invariant_of-self-2 g c = full _ _ (popped _ _ _ (sym (held _ _ c.self.invariant c.self.view_is).cells_are ∙ c.in_ok-pop.ensures.items)).holds

pub returns-clause-items : goal.returns-clause-items
returns-clause-items g c = popped_items _ _ _ (popped _ _ _ (sym (held _ _ c.self.invariant c.self.view_is).cells_are ∙ c.in_ok-pop.ensures.items))

pub returns-clause-variant : goal.returns-clause-variant
returns-clause-variant g c = popped_variant _ _ _ (popped _ _ _ (sym (held _ _ c.self.invariant c.self.view_is).cells_are ∙ c.in_ok-pop.ensures.items))

pub returns-clause-empty : goal.returns-clause-empty
returns-clause-empty g c = popped_there _ _ _ _ (popped _ _ _ (sym (held _ _ c.self.invariant c.self.view_is).cells_are ∙ c.in_ok-pop.ensures.items))
