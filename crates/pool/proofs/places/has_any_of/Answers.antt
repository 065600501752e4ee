use Rattle.std.proofs.Common.{ap, arith, inl, inr}
use Rattle.std.specs.Prelude.{slice_index_or}
use Rattle.ringcore_laws.specs.Sound.{occurrences_in}
use Rattle.fabric.specs.Owned.{one_if}
use Rattle.pool.proofs.Placing.{number_at, number_next}
use Rattle.pool.proofs.places.has_any_of.Goals as goal

pub returns-then-is_among-clause-found : goal.returns-then-is_among-clause-found
returns-then-is_among-clause-found g c _ = (
  slice_index_or c.args.numbers.now c.loop-i.i 0,
  number_at c.args.numbers.now c.loop-i.i 0 c.loop-i-test.true,
  omega (arith, c.is_among.ensures, ap one_if c.if-is_among.true),
)

pub loop-i-preserved : goal.loop-i-preserved
loop-i-preserved g c b some = elim (number_next b c.args.numbers.now c.loop-i.i 0 c.loop-i-test.true some) [
  | inl is ↦ omega (
    arith,
    ap (λ n. occurrences_in g.T.Tagged.numbers n c.args.words.now) is,
    c.is_among.ensures,
    ap one_if c.if-is_among.false,
  )
  | inr before ↦ c.loop-i.invariant b before
]
