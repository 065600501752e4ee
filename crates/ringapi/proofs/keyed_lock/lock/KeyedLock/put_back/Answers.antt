use Rattle.std.proofs.Common.{rules}
use Rattle.ringapi.proofs.LockSteps.{may_give, filled}
use Rattle.ringapi.proofs.keyed_lock.lock.KeyedLock.put_back.Goals as goal

pub store-requires : goal.store-requires
store-requires g c = (
  search rules,
  search rules,
  may_give g.P.Keeps.holds _ _ _ _ c.args.taken.value (filled _ _ _ _ c.ticket.invariant c.exchange.ensures.3) (search rules),
)
