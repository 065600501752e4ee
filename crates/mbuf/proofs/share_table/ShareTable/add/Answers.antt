use Rattle.std.proofs.Common.{◌∙◌, ap, List, ◌∷◌, [], ◌++◌, subst, sym}
use Rattle.mbuf.specs.Deck.{Share, shared}
use Rattle.mbuf.specs.Entries.{IsTable}
use Rattle.mbuf.proofs.Entries.{table_same}
use Rattle.mbuf.proofs.Adding.{stored_live, stored_table}
use Rattle.mbuf.proofs.share_table.ShareTable.add.Goals as goal

pub invariant_of-self : goal.invariant_of-self
invariant_of-self c = let back = c.in-Err.ensures.unchanged in subst (IsTable c.store.new.packets) (sym back.0) (table_same _ _ _ back.1 c.self.invariant)

pub invariant_of-self-2 : goal.invariant_of-self-2
invariant_of-self-2 c = stored_table _ _ _ _ _ _ _ c.self.view_is c.in_default.ensures.stored c.self.invariant c.requires.unmentioned

pub returns-clause-done : goal.returns-clause-done
returns-clause-done c =
    stored_live _ _ _ _ _ _ c.in_default.ensures.stored c.self.invariant ∙ ap (λ (live : List Share). live ++ shared c.args.id c.args.chain ∷ []) c.self.view_is
