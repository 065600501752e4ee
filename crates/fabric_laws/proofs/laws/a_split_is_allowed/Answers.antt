use Rattle.fabric_laws.proofs.Hands.{splits}
use Rattle.fabric_laws.proofs.laws.a_split_is_allowed.Goals as goal

pub returns : goal.returns
returns g c = λ tags plans pool. splits tags plans pool
