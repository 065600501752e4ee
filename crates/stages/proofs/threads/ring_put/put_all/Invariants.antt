use Rattle.std.proofs.Common.{◌≡◌, ◌++◌, List}
use Rattle.fabric.specs.Hands.{IsHandOf, OnRing, view}
use Rattle.fabric.specs.Settles.{AreYours}
use Rattle.stages.specs.Passing.{Puts}
use Rattle.stages.proofs.threads.ring_put.put_all.Given as goal

abbrev pub invariant-loop : goal.invariant-loop
invariant-loop g l = record {
  iterator : (goal.iterator-loop g).can_next l.iterator' × (goal.iterator-loop g).is_finite l.iterator';
  hand : IsHandOf l.f l.hand;
  sent : List g.row.T.Denot;
  all : sent ++ l.list ≡ l.fn.list;
  puts : Puts l.ring (view l.fn.hand).party.settled (view l.hand).party.settled sent;
  yours : OnRing l.f l.ring (λ plan. AreYours g.T.Tagged.numbers plan (view l.hand) l.list);
}
