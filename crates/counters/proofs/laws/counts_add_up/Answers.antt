use Rattle.counters.proofs.Counting.{counts_of-append}
use Rattle.counters.proofs.laws.counts_add_up.Goals as goal

pub returns : goal.returns
returns c = counts_of-append
