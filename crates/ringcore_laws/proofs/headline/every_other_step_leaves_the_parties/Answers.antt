use Rattle.ringcore_laws.proofs.Changes.{others_leave}
use Rattle.ringcore_laws.proofs.headline.every_other_step_leaves_the_parties.Goals as goal

pub returns : goal.returns
returns c = others_leave
