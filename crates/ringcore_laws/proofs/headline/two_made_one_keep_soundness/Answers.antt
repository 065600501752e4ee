use Rattle.ringcore_laws.specs.History.{tags}
use Rattle.ringcore_laws.proofs.HandLaws.{orderly_joined}
use Rattle.ringcore_laws.proofs.Laws.{joined_keeps}
use Rattle.ringcore_laws.proofs.headline.two_made_one_keep_soundness.Goals as goal

pub returns-clause-rule : goal.returns-clause-rule
returns-clause-rule c = orderly_joined tags

pub returns-clause-sound : goal.returns-clause-sound
returns-clause-sound c = joined_keeps tags
