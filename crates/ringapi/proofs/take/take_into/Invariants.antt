use Rattle.fabric.specs.Hands.{OnRing, view}
use Rattle.ringapi.specs.Takes.{IsTakeOf, LeavesRoom, TakeHasTold}
use Rattle.ringapi.specs.Truths.{IsTrueTake}
use Rattle.ringapi.proofs.take.take_into.Given as goal

abbrev pub invariant-loop : goal.invariant-loop
invariant-loop g l = record {
  iterator : (goal.iterator-loop g).can_next l.iterator' × (goal.iterator-loop g).is_finite l.iterator';
  made : IsTakeOf l.f l.ring l.answer;
  told : OnRing l.f l.ring (λ plan. TakeHasTold g.T.Tagged.numbers l.how l.n l.ring plan (view l.fn.hand) l.answer (g.I.Items.items l.into));
  beside : LeavesRoom g.I.Items.beside l.fn.into l.answer l.into;
  so : OnRing l.f l.ring (λ plan. IsTrueTake g.T.Tagged.numbers l.ring plan l.answer);
}
