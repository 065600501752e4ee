use Rattle.std.proofs.Common.{◌+◌, ◌∙◌, ap, subst, inr, Err, rules}
use Rattle.fabric.specs.Hands.{view}
use Rattle.pool.proofs.ring_requests.refill.Goals as goal
use Rattle.pool_laws.specs.Requests.{Takes}

pub returns-in-Err-clause-exact : goal.returns-in-Err-clause-exact
returns-in-Err-clause-exact g c plan there =
    let none = ap g.I.Items.items c.in-Err.ensures.back.1 ∙ c.requires.empty in
    inr (
      search rules,
      c.in-Err.hand,
      c.in-Err.field-0-1,
      subst (λ l. Takes g.T.Tagged.numbers g.row.N c.args.ring plan (view c.args.hand) (c.args.missing + c.args.size)
          (Err (c.in-Err.hand, c.in-Err.field-0-1)) l) none
          (c.in-Err.ensures.exact plan there),
      c.take_bulk.ensures.exact plan there,
    )
