use Rattle.std.proofs.Common.{◌≡◌, ◌++◌, ◌+◌, ◌≤◌, reverse, length, List}
use Rattle.stages.specs.Judging.{AllPairs, IsJudged, has_mark}
use Rattle.stages.specs.declared.threads.item.RingItem.{RingItem}
use Rattle.stages.proofs.threads.worker.judge_all.Given as goal

abbrev pub decreases-loop-item : goal.decreases-loop-item
decreases-loop-item g l = length l.items

abbrev pub invariant-loop-item : goal.invariant-loop-item
invariant-loop-item g l = record {
  done : List (RingItem g.row.J.Denot g.J.Run);
  all : done ++ reverse l.items ≡ l.fn.items;
  judged : AllPairs (IsJudged g.J.Run.forwarding) done l.out;
  ended : l.ended ≡ has_mark done;
  room : length l.out + length l.items ≤ 256;
}
