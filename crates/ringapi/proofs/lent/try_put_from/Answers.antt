use Rattle.std.proofs.Common.{subst, sym, ◌∙◌}
use Rattle.ringapi.specs.Whole.{TriesPut}
use Rattle.ringapi.proofs.Putting.{rest_dropped}
use Rattle.ringapi.proofs.lent.try_put_from.Goals as goal

pub returns : goal.returns
returns g c =
    let same = c.try_put.ensures.list ∙ rest_dropped c.try_put.result c.args.list.now in
    subst (TriesPut g.T.Tagged.numbers c.args.how c.args.f.now c.args.ring c.args.hand c.args.list.now c.try_put.result) (sym same) c.try_put.ensures.put
