use Rattle.std.proofs.Common.{rules}
use Rattle.ringapi.proofs.LockSteps.{opened}
use Rattle.ringapi.proofs.keyed_lock.lock.KeyedLock.new.Goals as goal

pub new-requires : goal.new-requires
new-requires g c = opened _ _ c.args.value _ (search rules) c.requires
