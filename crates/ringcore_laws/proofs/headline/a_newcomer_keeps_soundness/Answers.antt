use Rattle.ringcore_laws.specs.History.{tags}
use Rattle.ringcore_laws.proofs.HandLaws.{orderly_newcomer}
use Rattle.ringcore_laws.proofs.Laws.{newcomer_keeps}
use Rattle.ringcore_laws.proofs.headline.a_newcomer_keeps_soundness.Goals as goal

pub returns-clause-rule : goal.returns-clause-rule
returns-clause-rule c = orderly_newcomer

pub returns-clause-sound : goal.returns-clause-sound
returns-clause-sound c = newcomer_keeps tags
