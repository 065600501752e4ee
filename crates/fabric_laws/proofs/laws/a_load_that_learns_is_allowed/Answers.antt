use Rattle.fabric_laws.proofs.Learning.{learns}
use Rattle.fabric_laws.proofs.laws.a_load_that_learns_is_allowed.Goals as goal

pub returns : goal.returns
returns g c = λ tags plans pool slots id word me alive. learns tags plans pool slots id word me alive
