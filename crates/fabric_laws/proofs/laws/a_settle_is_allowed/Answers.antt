use Rattle.fabric_laws.proofs.Settles.{settles, stores}
use Rattle.fabric_laws.proofs.laws.a_settle_is_allowed.Goals as goal

pub returns-clause-multi : goal.returns-clause-multi
returns-clause-multi g c = λ tags plans pool. settles tags plans pool

pub returns-clause-hts : goal.returns-clause-hts
returns-clause-hts g c = λ tags plans pool. stores tags plans pool
