use Rattle.fabric_laws.proofs.Reserves.{reserves_put, reserves_take}
use Rattle.fabric_laws.proofs.laws.a_reserve_is_allowed.Goals as goal

pub returns-clause-put : goal.returns-clause-put
returns-clause-put g c = λ tags plans pool. reserves_put tags plans pool

pub returns-clause-taken : goal.returns-clause-taken
returns-clause-taken g c = λ tags plans pool. reserves_take tags plans pool
