use Rattle.ringcore_laws.proofs.RunLaws.{history_of_steps}
use Rattle.ringcore_laws.proofs.headline.a_right_history_is_that_of_its_steps.Goals as goal

pub returns : goal.returns
returns c = history_of_steps
