use Rattle.std.proofs.Common.{◌+◌, ◌∙◌, ◌∷◌, [], ap, arith, length, refl, subst, sym, take}
use Rattle.std.proofs.lemmas.List.{length-take-le}
use Rattle.std.proofs.lemmas.List.Sums.{sum_by-cons}
use Rattle.std.proofs.lemmas.Option.{slice_get_read}
use Rattle.ringcore_laws.specs.FreeRings.{AreSingle}
use Rattle.ringcore_laws.specs.Sound.{occurrences, occurrences_in}
use Rattle.ringapi.proofs.Counts.{count_at, count_both, count_parts, count_past}
use Rattle.ringapi.proofs.Singles.{single_both, single_take}
use Rattle.pool.specs.Places.{ArePlaced}
use Rattle.pool.proofs.Placing.{front_of, placed_first}
use Rattle.pool.proofs.places.push_all_apart.Goals as goal

pub push_one_apart-requires-clause-single : goal.push_one_apart-requires-clause-single
push_one_apart-requires-clause-single g c =
    let tags = g.T.Tagged.numbers in
    let items = c.args.items.now in
    subst (AreSingle tags) (sym c.loop-i.invariant.row)
    (single_both tags (take c.args.n c.args.words.now) (take c.loop-i.i items) c.requires.single (single_take tags c.loop-i.i items c.requires.ones))

pub push_one_apart-requires-clause-below : goal.push_one_apart-requires-clause-below
push_one_apart-requires-clause-below g c b le =
    let items = c.args.items.now in
    let x = c.index-items-i.result in
    let at = slice_get_read items (length items) c.loop-i.i x refl c.loop-i-test.true c.index-items-i.is in
    omega (arith, c.requires.below b (omega (arith, le, c.loop-i.invariant.places)), count_at g.T.Tagged.numbers b items c.loop-i.i x at)

pub returns-then-not-push_one_apart-clause-back : goal.returns-then-not-push_one_apart-clause-back
returns-then-not-push_one_apart-clause-back g c _ =
    let n = c.args.n in
    let words = c.args.words.now in
    let xs = take n words in
    ap (take n) (c.push_one_apart.ensures.back c.if-not-push_one_apart.true)
    ∙ front_of c.loop-i.words xs (take c.loop-i.i c.args.items.now) n c.loop-i.i c.loop-i.invariant.row (length-take-le n words (omega (arith, c.requires.fits)))

pub returns-then-not-push_one_apart-clause-kept : goal.returns-then-not-push_one_apart-clause-kept
returns-then-not-push_one_apart-clause-kept g c _ =
    let tags = g.T.Tagged.numbers in
    let xs = take c.args.n c.args.words.now in
    subst (λ a. ArePlaced tags a xs) (sym (c.push_one_apart.ensures.kept c.if-not-push_one_apart.true))
    (placed_first tags c.loop-i.at xs (take c.loop-i.i c.args.items.now) c.loop-i.invariant.placed)

pub returns-then-not-push_one_apart-clause-twice : goal.returns-then-not-push_one_apart-clause-twice
returns-then-not-push_one_apart-clause-twice g c _ =
    let tags = g.T.Tagged.numbers in
    let i = c.loop-i.i in
    let items = c.args.items.now in
    let xs = take c.args.n c.args.words.now in
    let row = take (c.args.n + i) c.loop-i.words in
    let x = c.index-items-i.result in
    let at = slice_get_read items (length items) i x refl c.loop-i-test.true c.index-items-i.is in
    let it = c.push_one_apart.ensures.twice c.if-not-push_one_apart.true in
    let b = it.0 in (
      b,
      omega (
        arith,
        it.1,
        ap (λ l. occurrences_in tags b l) c.loop-i.invariant.row,
        count_both tags b row (x ∷ []),
        sum_by-cons (λ y. occurrences b (tags y)) x [],
        count_both tags b xs (take i items),
        count_past tags b items i x at,
        count_parts tags b (i + 1) items,
        count_both tags b xs items,
      ),
    )
