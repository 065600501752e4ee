use Rattle.std.proofs.Common.{◌+◌, refl, sym, subst}
use Rattle.mbuf.specs.Deck.{HasIds, shared}
use Rattle.mbuf.proofs.Ids.{ids_add}
use Rattle.mbuf.proofs.deck.Deck.share.Goals as goal

pub invariant_of-self-2 : goal.invariant_of-self-2
invariant_of-self-2 c =
    subst (HasIds (c.self.inside.next + 1)) (sym c.in_default.ensures.done)
    (ids_add c.self.inside.next c.self.inside.table (shared c.self.inside.next c.args.chain) refl c.self.invariant)
