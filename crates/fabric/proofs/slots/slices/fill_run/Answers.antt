use Rattle.std.proofs.Common.{◌≡◌, ◌+◌, ◌-◌, ◌*◌, ◌/◌, ◌≤◌, ap, arith, drop, length, map, refl, replicate, None, Option, Some, ◌∙◌}
use Rattle.fabric_laws.proofs.Cells.{length-cells, length-many}
use Rattle.fabric.proofs.Blocks.{fill_part_asks, fill_part_next, part_is_long}
use Rattle.fabric.proofs.Turns.{half, half_first, half_last}
use Rattle.fabric.proofs.slots.slices.fill_run.Goals as goal

pub loop-i-init : goal.loop-i-init
loop-i-init g c =
    let n = length c.args.items.now in
    record {
      same_table = refl;
      same_id = refl;
      same_view = refl;
      held = half_first (λ p. p) c.args.slot (map Some c.args.items.now) (replicate n None) (drop n c.args.seat.now.me.1)
          c.args.seat.now.me.1 c.requires.held;
    }

pub fill_each-requires : goal.fill_each-requires
fill_each-requires g c =
    let inv = c.loop-i.invariant in
    let xs = c.args.items.now in
    let n = length xs in
    let at = c.loop-i.i * 8 in
    let k = at + 8 - at in
    let others = drop n c.args.seat.now.me.1 in
    let fits : at + k ≤ n = omega (arith, c.loop-i-test.true) in
    record {
      table = inv.same_table ∙ c.requires.table;
      low = omega (arith, fits, part_is_long (λ p. p) c.args.slot at k n xs others c.loop-i.seat.me.1 inv.held refl fits, c.requires.low);
      held = fill_part_asks (λ p. p) c.args.slot at k n xs others c.loop-i.seat.me.1 inv.held refl fits;
    }

pub loop-i-preserved : goal.loop-i-preserved
loop-i-preserved g c =
    let inv = c.loop-i.invariant in
    let f = c.fill_each.ensures in
    let xs = c.args.items.now in
    let n = length xs in
    let at = c.loop-i.i * 8 in
    let k = at + 8 - at in
    let others = drop n c.args.seat.now.me.1 in
    let fits : at + k ≤ n = omega (arith, c.loop-i-test.true) in
    record {
      same_table = f.seat.0.0 ∙ inv.same_table;
      same_id = f.seat.0.1 ∙ inv.same_id;
      same_view = f.seat.1 ∙ inv.same_view;
      held = fill_part_next (λ p. p) c.args.slot at k n xs others c.loop-i.seat.me.1 inv.held refl fits c.fill_each.new.seat.me.1 f.filled
          ∙ ap (λ m. half (λ p. p) c.args.slot m (map Some xs) (replicate n None) others) (let q : at + k ≡ (c.loop-i.i + 1) * 8 = omega arith in q);
    }

pub fill_each-requires-2 : goal.fill_each-requires-2
fill_each-requires-2 g c =
    let inv = c.loop-i.invariant in
    let xs = c.args.items.now in
    let n = length xs in
    let at = n / 8 * 8 in
    let k = n - at in
    let others = drop n c.args.seat.now.me.1 in
    let done : c.loop-i.i ≡ n / 8 = omega (arith, c.loop-i-test.false, c.loop-i.auto) in
    let held : c.loop-i.seat.me.1 ≡ half (λ p. p) c.args.slot at (map Some xs) (replicate n None) others =
    inv.held ∙ ap (λ m. half (λ p. p) c.args.slot (m * 8) (map Some xs) (replicate n None) others) done in
    let fits : at + k ≤ n = omega arith in
    record {
      table = inv.same_table ∙ c.requires.table;
      low = omega (arith, fits, part_is_long (λ p. p) c.args.slot at k n xs others c.loop-i.seat.me.1 held refl fits, c.requires.low);
      held = fill_part_asks (λ p. p) c.args.slot at k n xs others c.loop-i.seat.me.1 held refl fits;
    }

pub returns-clause-seat : goal.returns-clause-seat
returns-clause-seat g c =
    let inv = c.loop-i.invariant in
    let f = c.fill_each-2.ensures in
    ((f.seat.0.0 ∙ inv.same_table, f.seat.0.1 ∙ inv.same_id), f.seat.1 ∙ inv.same_view)

pub returns-clause-filled : goal.returns-clause-filled
returns-clause-filled g c =
    let inv = c.loop-i.invariant in
    let xs = c.args.items.now in
    let n = length xs in let gone : Option g.row.T.Denot = None in
    let at = n / 8 * 8 in
    let k = n - at in
    let others = drop n c.args.seat.now.me.1 in
    let done : c.loop-i.i ≡ n / 8 = omega (arith, c.loop-i-test.false, c.loop-i.auto) in
    let held : c.loop-i.seat.me.1 ≡ half (λ p. p) c.args.slot at (map Some xs) (replicate n None) others =
    inv.held ∙ ap (λ m. half (λ p. p) c.args.slot (m * 8) (map Some xs) (replicate n None) others) done in
    let fits : at + k ≤ n = omega arith in
    half_last (λ p. p) c.args.slot (at + k) (map Some xs) (replicate n None) others c.fill_each-2.new.seat.me.1
    (fill_part_next (λ p. p) c.args.slot at k n xs others c.loop-i.seat.me.1 held refl fits c.fill_each-2.new.seat.me.1 c.fill_each-2.ensures.filled)
    (omega (arith, length-cells xs)) (omega (arith, length-many n gone))
