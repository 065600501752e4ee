use Rattle.fabric_laws.proofs.Loads.{rooms}
use Rattle.fabric_laws.proofs.laws.a_question_for_room_is_allowed.Goals as goal

pub returns : goal.returns
returns g c = λ tags plans pool. rooms tags plans pool
