use Rattle.pcapio_laws.proofs.Cases.{some_case, one_case}
use Rattle.pcapio_laws.proofs.laws.one_case.Goals as goal

pub returns-clause-exists : goal.returns-clause-exists
returns-clause-exists c = some_case

pub returns-clause-one : goal.returns-clause-one
returns-clause-one c = one_case
