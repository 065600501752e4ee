use Rattle.fabric_laws.proofs.Hands.{joins}
use Rattle.fabric_laws.proofs.laws.a_join_is_allowed.Goals as goal

pub returns : goal.returns
returns g c = λ tags plans pool. joins tags plans pool
