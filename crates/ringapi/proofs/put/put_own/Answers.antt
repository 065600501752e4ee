use Rattle.std.proofs.Common.{◌≡◌, [], rules, subst, sym, ◌∙◌}
use Rattle.fabric.specs.Hands.{rings_of, view}
use Rattle.fabric.proofs.Told.{ring_at}
use Rattle.ringapi.specs.Puts.{PutHasTold, left_of, rest_by}
use Rattle.ringapi.proofs.Putting.{tells_settles, unfinished_same}
use Rattle.ringapi.proofs.put.put_own.Goals as goal

pub loop-init : goal.loop-init
loop-init g c = record {
  iterator = (tt, tt);
  made = c.try_put_own-answer.ensures.made;
  told = λ plan there. ([], [], c.try_put_own-answer.ensures.exact plan there);
  list = c.try_put_own-answer.ensures.list;
  so = c.try_put_own-answer.ensures.true_refusal;
}

pub returns-then-not-should_retry-clause-put : goal.returns-then-not-should_retry-clause-put
returns-then-not-should_retry-clause-put g c =
    let w = ring_at (rings_of c.args.f.now) c.args.ring c.requires.ring in
    let told = c.loop.invariant.told w.0 w.1 in
    let items = g.I.Items.items c.args.list.now in
    record {
      made = c.loop.invariant.made;
      exact = c.loop.invariant.told;
      settled = tells_settles g.T.Tagged.numbers c.args.how c.args.ring w.0 (view c.args.hand) items told.0 told.1 c.args.f.now c.loop.answer
          (left_of c.loop.answer items) w.1 c.loop.invariant.made told.2;
      true_refusal = c.loop.invariant.so;
      finished = search rules;
    }

pub again-answer-requires : goal.again-answer-requires
again-answer-requires g c =
    let items = g.I.Items.items c.args.list.now in
    let open_still = c.should_retry.ensures.sound c.if-not-should_retry.false in
    let same = c.loop.invariant.list ∙ unfinished_same g.I.PutItems.after c.loop.answer items open_still in (
      search rules,
      (
        search rules,
        (
          c.loop.invariant.made,
          (
            c.requires.ring,
            (
              open_still,
              λ plan there. (
                view c.args.hand,
                subst (λ l. PutHasTold g.T.Tagged.numbers c.args.how c.args.ring plan (view c.args.hand) l c.loop.answer (left_of c.loop.answer l)) (sym same)
                    (c.loop.invariant.told plan there),
              ),
            ),
          ),
        ),
      ),
    )

pub loop-preserved : goal.loop-preserved
loop-preserved g c =
    let items = g.I.Items.items c.args.list.now in
    let v = view c.args.hand in
    let open_still = c.should_retry.ensures.sound c.if-not-should_retry.false in
    let same = c.loop.invariant.list ∙ unfinished_same g.I.PutItems.after c.loop.answer items open_still in
    record {
      iterator = (tt, tt);
      made = c.again-answer.ensures.made;
      told = λ plan there.
          let TellsAt : PutHasTold g.T.Tagged.numbers c.args.how c.args.ring plan v items c.again-answer.result (left_of c.again-answer.result items) =
          subst (λ l. PutHasTold g.T.Tagged.numbers c.args.how c.args.ring plan v l c.again-answer.result (left_of c.again-answer.result l)) same
          (c.again-answer.ensures.exact plan there v
          (subst (λ l. PutHasTold g.T.Tagged.numbers c.args.how c.args.ring plan v l c.loop.answer (left_of c.loop.answer l)) (sym same)
          (c.loop.invariant.told plan there))) in TellsAt;
      list = subst (λ l. g.I.Items.items c.again-answer.new.list ≡ rest_by g.I.PutItems.after c.again-answer.result l) same c.again-answer.ensures.list;
      so = c.again-answer.ensures.true_refusal;
    }
