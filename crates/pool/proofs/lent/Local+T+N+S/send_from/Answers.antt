use Rattle.std.proofs.Common.{subst, sym, ◌∙◌}
use Rattle.ringapi.specs.Views.{by_burst}
use Rattle.pool_laws.specs.Beside.{Sends}
use Rattle.pool.specs.Locals.{cache_of, hand_of}
use Rattle.pool.proofs.Shown.{left_all}
use Rattle.pool.proofs.lent.Local+T+N+S.send_from.Goals as goal

pub returns-clause-exact : goal.returns-clause-exact
returns-clause-exact g c plan there =
    subst (Sends g.T.Tagged.numbers by_burst g.row.N c.args.ring plan (hand_of c.args.self.now) (hand_of c.send.new.self) (cache_of c.args.self.now)
    c.args.list.now c.send.result) (sym (c.send.ensures.list ∙ left_all c.send.result c.args.list.now)) (c.send.ensures.exact plan there)
