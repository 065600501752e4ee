use Rattle.std.proofs.Common.{arith, inl, inr, length, refl}
use Rattle.std.proofs.lemmas.Option.{slice_get_read}
use Rattle.ringcore_laws.specs.Sound.{occurrences}
use Rattle.ringcore_laws.proofs.RingLaws.{below_or_not}
use Rattle.ringapi.proofs.Counts.{count_at, count_past}
use Rattle.pool.proofs.places.has_any.Goals as goal

pub returns-then-has_one-clause-found : goal.returns-then-has_one-clause-found
returns-then-has_one-clause-found g c _ =
    let items = c.args.items.now in
    let x = c.index-items-i.result in
    let at = slice_get_read items (length items) c.loop-i.i x refl c.loop-i-test.true c.index-items-i.is in
    let it = c.has_one.ensures.found c.if-has_one.true in
    (it.0, omega (arith, it.1, count_at g.T.Tagged.numbers it.0 items c.loop-i.i x at), it.2)

pub loop-i-preserved : goal.loop-i-preserved
loop-i-preserved g c b some =
    let tags = g.T.Tagged.numbers in
    let items = c.args.items.now in
    let x = c.index-items-i.result in
    let at = slice_get_read items (length items) c.loop-i.i x refl c.loop-i-test.true c.index-items-i.is in
    elim (below_or_not 0 (occurrences b (tags x))) [
      | inl here ↦ c.has_one.ensures.none c.if-has_one.false b here
      | inr gone ↦ c.loop-i.invariant b (omega (arith, gone, some, count_past tags b items c.loop-i.i x at))
    ]
