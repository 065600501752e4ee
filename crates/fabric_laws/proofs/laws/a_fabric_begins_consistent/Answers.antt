use Rattle.std.proofs.Common.{◌*◌, length, refl, replicate}
use Rattle.fabric_laws.proofs.Openings.{opens}
use Rattle.fabric_laws.proofs.laws.a_fabric_begins_consistent.Goals as goal

pub returns : goal.returns
returns g c = λ tags plans pool fitting. opens tags plans pool (replicate (64 * length plans) 0) fitting refl
