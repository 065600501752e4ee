use Rattle.ringcore_laws.specs.History.{tags}
use Rattle.ringcore_laws.proofs.Laws.{put_keeps, take_keeps}
use Rattle.ringcore_laws.proofs.headline.a_done_settle_keeps_soundness.Goals as goal

pub returns-clause-put : goal.returns-clause-put
returns-clause-put c = put_keeps tags

pub returns-clause-taken : goal.returns-clause-taken
returns-clause-taken c = take_keeps tags
