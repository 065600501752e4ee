use Rattle.pool_laws.proofs.Kept.{none_own}
use Rattle.pool.proofs.bursts.BurstAccepts.admit.Goals as goal

pub returns-else-may-clause-other : goal.returns-else-may-clause-other
returns-else-may-clause-other g c _ =
    none_own g.T.Tagged.numbers c.args.cache_hand.now c.set_aside-may.new.self c.args.self.now c.args.list.now c.requires.kept
    (c.set_aside-may.ensures.other c.if-may.false)
