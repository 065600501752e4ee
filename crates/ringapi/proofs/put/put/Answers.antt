use Rattle.std.proofs.Common.{[], refl, rules, subst}
use Rattle.ringapi.specs.Puts.{PutHasTold, left_of}
use Rattle.ringapi.proofs.put.put.Goals as goal

pub returns-else-may_put-clause-put : goal.returns-else-may_put-clause-put
returns-else-may_put-clause-put g c = record {
  made = search rules;
  exact = λ plan there. ([], [], (c.may_put.ensures.other plan there c.if-may_put.false, refl, c.may_put.ensures.kept.1));
  settled = search rules;
  true_refusal = search rules;
  finished = search rules;
}

pub returns-then-may_put-clause-put : goal.returns-then-may_put-clause-put
returns-then-may_put-clause-put g c = record {
  made = search rules;
  exact = λ plan there. subst (λ v. PutHasTold g.T.Tagged.numbers c.args.how c.args.ring plan v (g.I.Items.items c.args.list.now) c.put_own.result (left_of c.put_own.result (g.I.Items.items c.args.list.now)))
      c.may_put.ensures.kept.1 (c.put_own.ensures.put.exact plan there);
  settled = search rules;
  true_refusal = search rules;
  finished = search rules;
}
