use Rattle.std.proofs.Common.{◌≡◌, ◌+◌, ◌-◌, ◌≤◌, ◌++◌, ap, arith, drop, length, map, refl, replicate, sym, take, None, Option, Some, ◌∙◌}
use Rattle.fabric_laws.proofs.Cells.{length-cells, length-many}
use Rattle.fabric.specs.Shapes.{shape_slot}
use Rattle.fabric.proofs.Blocks.{by_slot, fill_part_asks, fill_part_next, one_slot, part_is_long}
use Rattle.fabric.proofs.Turns.{half, half_first, half_last}
use Rattle.fabric.proofs.slots.slices.fill_slice.Goals as goal

pub loop-at-init : goal.loop-at-init
loop-at-init g c =
    let n = length c.args.items.now in
    record {
      same_table = refl;
      same_id = refl;
      same_view = refl;
      few = omega arith;
      held = half_first (shape_slot c.args.shape.now) c.args.start (map Some c.args.items.now) (replicate n None) (drop n c.args.seat.now.me.1)
          c.args.seat.now.me.1 c.requires.held;
    }

pub fill_run-requires : goal.fill_run-requires
fill_run-requires g c =
    let inv = c.loop-at.invariant in
    let b = c.before_wrap-n.ensures in
    let shape = c.args.shape.now in
    let xs = c.args.items.now in
    let n = length xs in
    let at = c.loop-at.at in
    let k = at + c.before_wrap-n.result - at in
    let others = drop n c.args.seat.now.me.1 in
    let gone : Option g.row.T.Denot = None in
    let fits : at + k ≤ n = omega (arith, inv.few, b.fits) in
    let m = length (take k (drop at xs)) in
    let long : m ≡ k = part_is_long (shape_slot shape) c.args.start at k n xs others c.loop-at.seat.me.1 inv.held refl fits in
    record {
      table = inv.same_table ∙ c.requires.table;
      low = omega (arith, long, b.near, c.slot-in-loop-at.ensures, shape.near, shape.small.1);
      held = fill_part_asks (shape_slot shape) c.args.start at k n xs others c.loop-at.seat.me.1 inv.held refl fits
          ∙ ap (λ l. l ++ drop m c.loop-at.seat.me.1)
          (by_slot shape (c.args.start + at) m c.slot-in-loop-at.result (replicate m gone) (omega (arith, long, b.near)) (length-many m gone) c.slot-in-loop-at.ensures);
    }

pub loop-at-preserved : goal.loop-at-preserved
loop-at-preserved g c =
    let inv = c.loop-at.invariant in
    let b = c.before_wrap-n.ensures in
    let f = c.fill_run.ensures in
    let shape = c.args.shape.now in
    let xs = c.args.items.now in
    let n = length xs in
    let at = c.loop-at.at in
    let k = at + c.before_wrap-n.result - at in
    let others = drop n c.args.seat.now.me.1 in
    let fits : at + k ≤ n = omega (arith, inv.few, b.fits) in
    let part = take k (drop at xs) in
    let long : length part ≡ k = part_is_long (shape_slot shape) c.args.start at k n xs others c.loop-at.seat.me.1 inv.held refl fits in
    record {
      same_table = f.seat.0.0 ∙ inv.same_table;
      same_id = f.seat.0.1 ∙ inv.same_id;
      same_view = f.seat.1 ∙ inv.same_view;
      few = omega (arith, inv.few, b.fits);
      held = fill_part_next (shape_slot shape) c.args.start at k n xs others c.loop-at.seat.me.1 inv.held refl fits c.fill_run.new.seat.me.1
          (f.filled ∙ ap (λ l. drop (length part) c.loop-at.seat.me.1 ++ l)
          (sym (by_slot shape (c.args.start + at) (length part) c.slot-in-loop-at.result (map Some part) (omega (arith, long, b.near)) (length-cells part) c.slot-in-loop-at.ensures)))
          ∙ ap (λ m. half (shape_slot shape) c.args.start m (map Some xs) (replicate n None) others)
          (let q : at + k ≡ at + c.before_wrap-n.result = omega arith in q);
    }

pub returns-clause-filled : goal.returns-clause-filled
returns-clause-filled g c =
    let inv = c.loop-at.invariant in
    let xs = c.args.items.now in
    let n = length xs in let gone : Option g.row.T.Denot = None in
    half_last (shape_slot c.args.shape.now) c.args.start c.loop-at.at (map Some xs) (replicate n None) (drop n c.args.seat.now.me.1) c.loop-at.seat.me.1
    inv.held (omega (arith, c.loop-at-test.false, length-cells xs)) (omega (arith, c.loop-at-test.false, length-many n gone))

pub returns-then-items-eq1-clause-filled : goal.returns-then-items-eq1-clause-filled
returns-then-items-eq1-clause-filled g c =
    let xs = c.args.items.now in
    let one : length xs ≡ 1 = omega (arith, c.if-items-eq1.true) in
    c.fill_each.ensures.filled ∙ ap (λ l. drop (length xs) c.args.seat.now.me.1 ++ l)
    (sym (one_slot (shape_slot c.args.shape.now) c.args.start c.slot.result (map Some xs) (length-cells xs ∙ one) c.slot.ensures))
