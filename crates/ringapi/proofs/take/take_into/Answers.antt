use Rattle.std.proofs.Common.{[], rules}
use Rattle.fabric.specs.Hands.{rings_of, view}
use Rattle.fabric.proofs.Told.{ring_at}
use Rattle.ringapi.proofs.Taking.{tells_settles}
use Rattle.ringapi.proofs.take.take_into.Goals as goal

pub loop-init : goal.loop-init
loop-init g c = record {
  iterator = (tt, tt);
  made = c.try_take-answer.ensures.taken.made;
  told = λ plan there. ([], [], c.try_take-answer.ensures.taken.exact plan there);
  beside = c.try_take-answer.ensures.beside;
  so = c.try_take-answer.ensures.taken.true_refusal;
}

pub returns-then-not-should_retry-clause-taken : goal.returns-then-not-should_retry-clause-taken
returns-then-not-should_retry-clause-taken g c =
    let w = ring_at (rings_of c.args.f.now) c.args.ring c.requires.ring in
    let told = c.loop.invariant.told w.0 w.1 in
    record {
      made = c.loop.invariant.made;
      exact = c.loop.invariant.told;
      settled = tells_settles g.row.N g.T.Tagged.numbers c.args.how c.args.n c.args.ring w.0 (view c.args.hand) told.0 told.1 c.args.f.now c.loop.answer (g.I.Items.items c.loop.into) w.1
          c.loop.invariant.made told.2;
      true_refusal = c.loop.invariant.so;
      finished = search rules;
    }

pub again-answer-requires : goal.again-answer-requires
again-answer-requires g c = (
  search rules,
  (
    search rules,
    (
      c.loop.invariant.made,
      (
        c.requires.ring,
        (
          c.should_retry.ensures.sound c.if-not-should_retry.false,
          (
            λ plan there. (view c.args.hand, c.loop.invariant.told plan there),
            (c.args.into.now, c.loop.invariant.beside, c.requires.fits),
          ),
        ),
      ),
    ),
  ),
)
