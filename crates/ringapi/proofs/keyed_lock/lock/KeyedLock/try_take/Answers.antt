use Rattle.std.proofs.Common.{rules, ap}
use Rattle.ringapi.proofs.LockSteps.{may_take, front}
use Rattle.ringapi.proofs.keyed_lock.lock.KeyedLock.try_take.Goals as goal

pub swap_new_seat-found-requires : goal.swap_new_seat-found-requires
swap_new_seat-found-requires g c = (search rules, may_take g.P.Keeps.holds _ _)

pub exchange-requires : goal.exchange-requires
exchange-requires g c = let took = c.swap_new_seat-found.ensures.1 (search rules) in
    (search rules, (_, front _ _ (ap (λ m. m.1) took.2)))
