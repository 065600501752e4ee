use Rattle.std.proofs.Common.{[]}
use Rattle.counters.specs.Counted.{of_kinds, is_sent_by, is_dropped_for}
use Rattle.counters.proofs.Counting.{none_yet}
use Rattle.counters.proofs.counts.Counts.new.Goals as goal

pub returns : goal.returns
returns c = λ i. record {
  oversize = 0;
  sent = none_yet is_sent_by 0 c.args.ports 16 c.requires.at_most i;
  dropped = of_kinds is_dropped_for 1 7 [];
  tagged = 0;
}
