use Rattle.std.proofs.Common.{◌≡◌}
use Rattle.fabric.specs.Hands.{OnRing, view}
use Rattle.ringapi.specs.Puts.{IsPutOf, PutHasTold, left_of, rest_by}
use Rattle.ringapi.specs.Truths.{IsTruePut}
use Rattle.ringapi.proofs.put.put_own.Given as goal

abbrev pub invariant-loop : goal.invariant-loop
invariant-loop g l = record {
  iterator : (goal.iterator-loop g).can_next l.iterator' × (goal.iterator-loop g).is_finite l.iterator';
  made : IsPutOf l.f l.ring l.answer;
  told : OnRing l.f l.ring (λ plan. PutHasTold g.T.Tagged.numbers l.how l.ring plan (view l.fn.hand) (g.I.Items.items l.fn.list) l.answer
      (left_of l.answer (g.I.Items.items l.fn.list)));
  list : g.I.Items.items l.list ≡ rest_by g.I.PutItems.after l.answer (g.I.Items.items l.fn.list);
  so : OnRing l.f l.ring (λ plan. IsTruePut g.T.Tagged.numbers l.ring plan l.answer);
}
