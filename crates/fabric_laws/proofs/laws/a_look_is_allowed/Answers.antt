use Rattle.fabric_laws.proofs.Loads.{looks}
use Rattle.fabric_laws.proofs.laws.a_look_is_allowed.Goals as goal

pub returns : goal.returns
returns g c = λ tags plans pool. looks tags plans pool
