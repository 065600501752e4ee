use Rattle.std.proofs.Common.{◌≡◌, [], false, List}
use Rattle.fabric.specs.Hands.{IsHandOf, view}
use Rattle.stages.specs.declared.threads.item.RingItem.{RingItem}
use Rattle.stages.specs.Judging.{AllPairs, IsJudged, has_mark}
use Rattle.stages.specs.Passing.{Passes}
use Rattle.stages.proofs.threads.worker.work.Given as goal

abbrev pub invariant-loop : goal.invariant-loop
invariant-loop g l = record {
  iterator : (goal.iterator-loop g).can_next l.iterator' × (goal.iterator-loop g).is_finite l.iterator';
  hand : IsHandOf l.f l.hand;
  items : l.items ≡ [];
  out : l.out ≡ [];
  taken : List (RingItem g.row.J.Denot g.J.Run);
  sent : List (RingItem g.row.J.Denot g.J.Run);
  passes : Passes (view l.fn.hand).party.settled (view l.hand).party.settled taken sent;
  judged : AllPairs (IsJudged g.J.Run.forwarding) taken sent;
  unended : has_mark taken ≡ false;
}
