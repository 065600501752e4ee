use Rattle.std.proofs.Common.{◌≡◌, ◌<◌, None, sym, ap, ◌∙◌, arith, slice_get, length}
use Rattle.std.specs.Option.{option_copied}
use Rattle.fabric.specs.Owned.{one_if}
use Rattle.fabric.proofs.Told.{ring_at}
use Rattle.ringapi.proofs.Counts.{count_at, count_past}
use Rattle.ringapi.proofs.Singles.{single_at}
use Rattle.pool.proofs.bursts.BurstStore.one_carries.Goals.{in-Some+else-carries, in-None}
use Rattle.pool.proofs.bursts.BurstStore.one_carries.Goals as goal

pub carries-requires : goal.carries-requires
carries-requires g c = record {
  single = single_at g.T.Tagged.numbers c.args.self.now c.loop-i.i c.in-Some.item.now c.requires.single
      (sym c.get.ensures ∙ ap option_copied c.in-Some.is);
}

pub returns-then-carries-clause-found : goal.returns-then-carries-clause-found
returns-then-carries-clause-found g c found =
    omega (
      arith,
      count_at g.T.Tagged.numbers c.args.b c.args.self.now c.loop-i.i c.in-Some.item.now (sym c.get.ensures ∙ ap option_copied c.in-Some.is),
      c.carries.ensures,
      ap one_if c.if-carries.true,
    )

pub loop-i-preserved : goal.loop-i-preserved
loop-i-preserved g c =
    let items = c.args.self.now in
    let i = c.loop-i.i in
    elim c.match-get.branch [
      | in-Some+else-carries w ↦ omega (
        arith,
        c.loop-i.invariant,
        count_past g.T.Tagged.numbers c.args.b items i w.in-Some.item.now (sym c.get.ensures ∙ ap option_copied w.in-Some.is),
        w.carries.ensures,
        ap one_if w.if-carries.false,
      )
      | in-None w ↦
          let low : i < length items = omega (arith, c.loop-i-test.true, c.len-i-end.ensures.value) in
          let there = ring_at items i low in
          let none : slice_get items i ≡ None = sym c.get.ensures ∙ ap option_copied w.in-None.is in
          absurd (cc (sym there.1 ∙ none))
    ]
