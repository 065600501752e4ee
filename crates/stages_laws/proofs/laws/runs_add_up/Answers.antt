use Rattle.stages_laws.proofs.Parts.{records_add, counts_add}
use Rattle.stages_laws.proofs.laws.runs_add_up.Goals as goal

pub returns-clause-records : goal.returns-clause-records
returns-clause-records c = records_add

pub returns-clause-counts : goal.returns-clause-counts
returns-clause-counts c = counts_add
