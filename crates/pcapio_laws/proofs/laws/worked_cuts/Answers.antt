use Rattle.pcapio_laws.proofs.Rows.{short_file, cut_25, cut_39, cut_40, cut_73, cut_74, cut_75, cut_99, cut_100}
use Rattle.pcapio_laws.proofs.laws.worked_cuts.Goals as goal

pub returns-clause-short_file : goal.returns-clause-short_file
returns-clause-short_file c = short_file

pub returns-clause-cut_25 : goal.returns-clause-cut_25
returns-clause-cut_25 c = cut_25

pub returns-clause-cut_39 : goal.returns-clause-cut_39
returns-clause-cut_39 c = cut_39

pub returns-clause-cut_40 : goal.returns-clause-cut_40
returns-clause-cut_40 c = cut_40

pub returns-clause-cut_73 : goal.returns-clause-cut_73
returns-clause-cut_73 c = cut_73

pub returns-clause-cut_74 : goal.returns-clause-cut_74
returns-clause-cut_74 c = cut_74

pub returns-clause-cut_75 : goal.returns-clause-cut_75
returns-clause-cut_75 c = cut_75

pub returns-clause-cut_99 : goal.returns-clause-cut_99
returns-clause-cut_99 c = cut_99

pub returns-clause-cut_100 : goal.returns-clause-cut_100
returns-clause-cut_100 c = cut_100
