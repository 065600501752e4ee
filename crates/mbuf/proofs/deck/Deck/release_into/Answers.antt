use Rattle.std.proofs.Common.{◌∙◌, ap, sym, subst}
use Rattle.mbuf.specs.Deck.{Shares, HasIds, without}
use Rattle.mbuf.proofs.Ids.{ids_remove, remove_without}
use Rattle.mbuf.proofs.deck.Deck.release_into.Goals as goal

pub invariant_of-self : goal.invariant_of-self
invariant_of-self c =
    let at = c.in-Some.ensures.found in
    subst (HasIds c.self.inside.next) (sym c.release.ensures.done) (ids_remove c.self.inside.next c.self.inside.table c.in-Some.place at.there c.self.invariant)

pub returns-clause-done : goal.returns-clause-done
returns-clause-done c =
    let at = c.in-Some.ensures.found in
    (λ k. record {
      next = c.self.inside.next;
      live =
          (c.release.ensures.done ∙ remove_without c.self.inside.next c.args.id c.in-Some.place c.self.inside.table c.self.invariant at) k;
    })
    ∙ ap (λ (deck : Shares). record deck { live = without c.args.id deck.live }) c.self.view_is
