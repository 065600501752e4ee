use Rattle.std.proofs.Common.{◌≡◌, ◌<◌, length, get_or, None, true, ap, ◌∙◌, sym, arith}
use Rattle.std.specs.Prelude.{is_some}
use Rattle.std.proofs.lemmas.List.{get_or_default}
use Rattle.steps_file.proofs.Gifts.{within_count, twice_given}
use Rattle.steps_file.proofs.stage.plan.owner_table.Goals as goal

pub index-requires : goal.index-requires
index-requires c = omega (arith, within_count c.args.gifts.now c.loop-gift.gift-index (0, 0) c.loop-gift-test.true, c.loop-gift.invariant.sized)

pub index_mut-requires : goal.index_mut-requires
index_mut-requires c = omega (arith, within_count c.args.gifts.now c.loop-gift.gift-index (0, 0) c.loop-gift-test.true, c.loop-gift.invariant.sized)

pub returns-then-is_some-clause-twice : goal.returns-then-is_some-clause-twice
returns-then-is_some-clause-twice c = λ bad.
    let gifts = c.args.gifts.now in
    let k = c.loop-gift.gift-index in
    let b = (get_or gifts k (0, 0)).0 in
    let table = c.loop-gift.table.items in
    let here = within_count gifts k (0, 0) c.loop-gift-test.true in
    let long : b < length table = omega (arith, c.loop-gift.invariant.sized) in
    let read : get_or table b None ≡ c.index.result.now = get_or_default table b None c.index.result.now long ∙ sym c.index.ensures in
    let owned : is_some (get_or table b None) ≡ true = ap is_some read ∙ sym c.is_some.ensures ∙ c.if-is_some.true in
    let fits : b < c.args.count = omega (arith, c.loop-gift.invariant.sized) in
    (b, omega arith, twice_given c.args.count table gifts k (0, 0) c.loop-gift-test.true c.loop-gift.invariant fits owned)
