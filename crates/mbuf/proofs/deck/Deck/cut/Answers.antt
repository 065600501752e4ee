use Rattle.std.proofs.Common.{◌∙◌, ap, refl, sym, subst}
use Rattle.mbuf.specs.Deck.{Shares, HasIds, share_at, narrowed, at_id}
use Rattle.mbuf.proofs.Ids.{ids_set, set_at_id}
use Rattle.mbuf.proofs.deck.Deck.cut.Goals as goal

pub invariant_of-self : goal.invariant_of-self
invariant_of-self c =
    let at = c.in-Some.ensures.found in
    let live = c.self.inside.table in
    let later = narrowed c.args.from c.args.n (share_at live c.in-Some.place) in
    subst (HasIds c.self.inside.next) (sym c.narrow.ensures) (ids_set c.self.inside.next live c.in-Some.place later at.there refl c.self.invariant)

pub returns-clause-done : goal.returns-clause-done
returns-clause-done c =
    let at = c.in-Some.ensures.found in
    let part = narrowed c.args.from c.args.n in
    (λ k. record {
      next = c.self.inside.next;
      live =
          (c.narrow.ensures ∙ set_at_id c.self.inside.next c.args.id c.in-Some.place c.self.inside.table c.self.invariant at part) k;
    })
    ∙ ap (λ (deck : Shares). record deck { live = at_id c.args.id part deck.live }) c.self.view_is
