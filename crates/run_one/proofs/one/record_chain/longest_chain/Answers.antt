use Rattle.std.proofs.Common.{◌≡◌, ◌<◌, ◌+◌, ◌-◌, ◌*◌, ◌++◌, ◌∙◌, min, [], ◌∷◌, refl, sym, ap, arith, length, length-append}
use Rattle.mbuf.specs.Chain.{space_of}
use Rattle.run_one.proofs.Segments.{row, last-made, row-joined, joined-apart, row-long, row-space}
use Rattle.run_one.proofs.one.record_chain.longest_chain.Goals as goal

pub loop-before-init : goal.loop-before-init
loop-before-init c =
    let n = length c.pop.new.self.items in
    let m = last-made c.args.headroom c.min-size.result c.segments_for-count.result c.pop.new.self.items c.in-Some.whole
    (sym c.in-Some.ensures.items ∙ c.in_ok-list.ensures.made) in
    let e : 1 ≡ c.segments_for-count.result - n = omega (arith, m.0) in
    record { list = m.1; fewer = omega (arith, m.0); whole = m.2 ∙ ap (row c.args.headroom c.min-size.result n) e }

pub chain-requires : goal.chain-requires
chain-requires c =
    let i = c.loop-before.invariant in
    let items = c.pop-in-loop-before.new.self.items in
    let m = last-made c.args.headroom c.min-size.result (length c.loop-before.list.items) items c.in-Some-pop.before
    (sym c.in-Some-pop.ensures.items ∙ i.list) in
    record {
      apart = joined-apart c.args.headroom c.min-size.result (length items) (length c.loop-before.list.items) c.segments_for-count.result
          c.in-Some-pop.before c.loop-before.whole m.0 i.fewer m.2 i.whole;
    }

pub loop-before-smaller : goal.loop-before-smaller
loop-before-smaller c =
    omega (arith, ap length c.in-Some-pop.ensures.items, length-append c.pop-in-loop-before.new.self.items (c.in-Some-pop.before ∷ []))

pub loop-before-preserved : goal.loop-before-preserved
loop-before-preserved c =
    let i = c.loop-before.invariant in
    let items = c.pop-in-loop-before.new.self.items in
    let m = last-made c.args.headroom c.min-size.result (length c.loop-before.list.items) items c.in-Some-pop.before
    (sym c.in-Some-pop.ensures.items ∙ i.list) in
    record {
      list = m.1;
      fewer = omega (arith, m.0, i.fewer);
      whole = c.in-Ok.ensures.done ∙ ((λ k. m.2 k ++ i.whole k)
          ∙ row-joined c.args.headroom c.min-size.result (length items) (length c.loop-before.list.items) c.segments_for-count.result m.0 i.fewer);
    }

pub unreachable-requires-in-Err : goal.unreachable-requires-in-Err
unreachable-requires-in-Err c =
    let i = c.loop-before.invariant in
    let items = c.pop-in-loop-before.new.self.items in
    let m = last-made c.args.headroom c.min-size.result (length c.loop-before.list.items) items c.in-Some-pop.before
    (sym c.in-Some-pop.ensures.items ∙ i.list) in
    let many : 64 < length c.in-Some-pop.before + length c.loop-before.whole = c.in-Err.ensures.refused.0 refl in
    absurd (omega (
      arith,
      many,
      ap length m.2,
      row-long c.args.headroom c.min-size.result (length items) 1,
      ap length i.whole,
      row-long c.args.headroom c.min-size.result (length c.loop-before.list.items) (c.segments_for-count.result - length c.loop-before.list.items),
      m.0,
      i.fewer,
      c.segments_for-count.ensures.at_most,
    ))

pub returns : goal.returns
returns c =
    let i = c.loop-before.invariant in
    let size = c.min-size.result in
    let count = c.segments_for-count.result in
    let none : length c.loop-before.list.items ≡ 0 = omega (arith, c.in_default-pop.ensures.cases.0, c.loop-before.list.ok.0) in
    let many : count - length c.loop-before.list.items ≡ count = omega (arith, none) in
    let space : space_of c.loop-before.whole ≡ count * size =
    ap space_of i.whole ∙ (row-space c.args.headroom size (length c.loop-before.list.items) (count - length c.loop-before.list.items) ∙ ap
    (λ k. k * size) many) in
    let same : count * size ≡ count * min c.min-longest.result 65536 = ap (λ k. count * k) c.min-size.ensures in
    omega (arith, space, same, c.segments_for-count.ensures.enough, c.min-longest.ensures)
