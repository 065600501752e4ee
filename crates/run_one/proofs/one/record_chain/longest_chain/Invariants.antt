use Rattle.std.proofs.Common.{◌≡◌, ◌≤◌, ◌-◌, length}
use Rattle.mbuf.specs.Chain.{made_all}
use Rattle.run_one.proofs.Segments.{row}
use Rattle.run_one.proofs.one.record_chain.longest_chain.Given as goal

abbrev pub decreases-loop-before : goal.decreases-loop-before
decreases-loop-before l = length l.list.items

abbrev pub invariant-loop-before : goal.invariant-loop-before
invariant-loop-before l = record {
  list : l.list.items ≡ made_all l.headroom l.size (length l.list.items);
  fewer : length l.list.items ≤ l.count;
  whole : l.whole ≡ row l.headroom l.size (length l.list.items) (l.count - length l.list.items);
}
