use Rattle.std.proofs.Common.{◌≡◌, ◌++◌, true, false, rules, sym, ◌∙◌, arith}
use Rattle.fabric.specs.Hands.{view}
use Rattle.stages.specs.Judging.{has_mark}
use Rattle.stages.proofs.Rounds.{goes_on, judged_yours, worked}
use Rattle.stages.proofs.threads.worker.work.Goals as goal

pub put_all-requires : goal.put_all-requires
put_all-requires g c = (
  search rules,
  (
    search rules,
    (
      c.in-Ok.ensures.hand,
      (
        omega (arith, c.requires.rings.many),
        λ plan there.
            judged_yours g.J.Run.forwarding plan (view c.loop.hand).party (view c.in-Ok.hand) c.take_batch.new.into c.judge_all-ended.new.out
            (c.requires.rings.mixed plan there) c.in-Ok.ensures.more c.judge_all-ended.ensures.judged,
      ),
    ),
  ),
)

pub returns-then-ended-clause-worked : goal.returns-then-ended-clause-worked
returns-then-ended-clause-worked g c _ =
    let i = c.loop.invariant in
    let took = c.in-Ok.ensures.settled in
    let marked : has_mark c.take_batch.new.into ≡ true = sym c.judge_all-ended.ensures.ended ∙ c.if-ended.true in
    worked g.J.Run.forwarding (view c.args.hand).party.settled (view c.loop.hand).party.settled (view c.in-Ok.hand).party.settled
    (view c.in-Ok-put_all.hand).party.settled i.taken i.sent c.take_batch.new.into c.judge_all-ended.new.out took.0 i.passes i.judged i.unended took.1
    c.in-Ok.ensures.part marked c.judge_all-ended.ensures.judged c.in-Ok-put_all.ensures.done.2

pub loop-preserved : goal.loop-preserved
loop-preserved g c =
    let i = c.loop.invariant in
    let took = c.in-Ok.ensures.settled in
    let none : has_mark c.take_batch.new.into ≡ false = sym c.judge_all-ended.ensures.ended ∙ c.if-ended.false in
    let done = c.in-Ok-put_all.ensures.done in
    let on = goes_on g.J.Run.forwarding (view c.args.hand).party.settled (view c.loop.hand).party.settled (view c.in-Ok.hand).party.settled
    (view c.in-Ok-put_all.hand).party.settled i.taken i.sent c.take_batch.new.into c.judge_all-ended.new.out took.0 i.passes i.judged i.unended took.1 none
    c.judge_all-ended.ensures.judged done.2 in
    record {
      iterator = (tt, tt);
      hand = done.0;
      items = c.judge_all-ended.ensures.left;
      out = done.1;
      taken = i.taken ++ c.take_batch.new.into;
      sent = i.sent ++ c.judge_all-ended.new.out;
      passes = on.0;
      judged = on.1;
      unended = on.2;
    }
