use Rattle.ringcore_laws.specs.History.{tags}
use Rattle.ringcore_laws.proofs.Laws.{reserve_keeps}
use Rattle.ringcore_laws.proofs.headline.a_granted_reserve_keeps_soundness.Goals as goal

pub returns : goal.returns
returns c = reserve_keeps tags
