use Rattle.std.proofs.Common.{[], refl, rules, subst}
use Rattle.fabric.specs.Hands.{rings_of, view}
use Rattle.fabric.proofs.Told.{ring_at}
use Rattle.ringapi.specs.Puts.{PutSettles, PutTells, left_of}
use Rattle.ringapi.proofs.Putting.{tells_settles}
use Rattle.ringapi.proofs.put.try_put.Goals as goal

pub returns-then-not-may_put-clause-put : goal.returns-then-not-may_put-clause-put
returns-then-not-may_put-clause-put g c = record {
  made = search rules;
  exact = λ plan there. (c.may_put.ensures.other plan there c.if-not-may_put.true, refl, c.may_put.ensures.kept.1);
  settled = search rules;
  true_refusal = search rules;
}

pub returns-clause-put : goal.returns-clause-put
returns-clause-put g c =
    let w = ring_at (rings_of c.args.f.now) c.args.ring c.requires.ring in
    record {
      made = c.try_put_own.ensures.made;
      exact = λ plan there. subst (λ v. PutTells g.T.Tagged.numbers c.args.how c.args.ring plan v (g.I.Items.items c.args.list.now) [] [] c.try_put_own.result (left_of c.try_put_own.result (g.I.Items.items c.args.list.now)))
          c.may_put.ensures.kept.1 (c.try_put_own.ensures.exact plan there);
      settled = subst (λ v. PutSettles c.args.ring v (g.I.Items.items c.args.list.now) c.try_put_own.result) c.may_put.ensures.kept.1
          (tells_settles g.T.Tagged.numbers c.args.how c.args.ring w.0 (view c.may_put.new.self) (g.I.Items.items c.args.list.now) [] [] c.args.f.now
          c.try_put_own.result (left_of c.try_put_own.result (g.I.Items.items c.args.list.now))
          w.1 c.try_put_own.ensures.made (c.try_put_own.ensures.exact w.0 w.1));
      true_refusal = c.try_put_own.ensures.true_refusal;
    }
