use Rattle.std.proofs.Common.{subst, sym, ◌∙◌}
use Rattle.ringapi.specs.Whole.{MakesPut}
use Rattle.ringapi.proofs.Putting.{rest_dropped}
use Rattle.ringapi.proofs.lent.put_own_from.Goals as goal

pub returns : goal.returns
returns g c =
    let same = c.put_own.ensures.list ∙ rest_dropped c.put_own.result c.args.list.now in
    subst (MakesPut g.T.Tagged.numbers c.args.how c.args.f.now c.args.ring c.args.hand c.args.list.now c.put_own.result) (sym same) c.put_own.ensures.put
