use Rattle.pcapio_laws.proofs.Rows.{longest, too_long, too_long_cut, none_of_nine, one_of_none}
use Rattle.pcapio_laws.proofs.laws.worked_lengths.Goals as goal

pub returns-clause-longest : goal.returns-clause-longest
returns-clause-longest c = longest

pub returns-clause-too_long : goal.returns-clause-too_long
returns-clause-too_long c = too_long

pub returns-clause-too_long_cut : goal.returns-clause-too_long_cut
returns-clause-too_long_cut c = too_long_cut

pub returns-clause-none_of_nine : goal.returns-clause-none_of_nine
returns-clause-none_of_nine c = none_of_nine

pub returns-clause-one_of_none : goal.returns-clause-one_of_none
returns-clause-one_of_none c = one_of_none
