use Rattle.std.proofs.Common.{◌≡◌, ◌+◌, ◌-◌, ◌≤◌, ◌++◌, ap, arith, drop, length, map, refl, replicate, subst, sym, take, None, Option, Some, ◌∙◌}
use Rattle.std.proofs.lemmas.List.{length-drop}
use Rattle.fabric_laws.proofs.Cells.{length-cells, length-many}
use Rattle.fabric.specs.Shapes.{shape_slot}
use Rattle.fabric.proofs.Blocks.{TakenOut, by_slot, take_out_came, take_out_ends, take_out_part_asks, take_out_part_next, take_out_starts, one_slot}
use Rattle.fabric.proofs.Turns.{take_long}
use Rattle.fabric.proofs.slots.slices.take_out_slice.Goals as goal

pub loop-at-init : goal.loop-at-init
loop-at-init g c =
    let q = c.requires.held in
    record {
      same_table = refl;
      same_id = refl;
      same_view = refl;
      few = omega arith;
      so = take_out_starts (shape_slot c.args.shape.now) c.args.start (length c.args.into.now) c.args.seat.now.me.1 c.args.into.now refl q.0 q.1 q.2;
    }

pub take_out_run-requires : goal.take_out_run-requires
take_out_run-requires g c =
    let inv = c.loop-at.invariant in
    let b = c.before_wrap-n.ensures in
    let shape = c.args.shape.now in
    let n = length c.args.into.now in
    let at = c.loop-at.at in
    let k = at + c.before_wrap-n.result - at in
    let same : length c.loop-at.into ≡ n = c.loop-at.auto.into in
    let fits : at + k ≤ n = omega (arith, inv.few, b.fits, same) in
    let m = length (take k (drop at c.loop-at.into)) in
    let long : m ≡ k = take_long (drop at c.loop-at.into) k (omega (arith, fits, same, length-drop at c.loop-at.into)) in
    let q =
    take_out_part_asks (shape_slot shape) c.args.start n at k c.args.seat.now.me.1 c.loop-at.seat.me.1 c.args.into.now c.loop-at.into refl fits inv.so m long in
    record {
      table = inv.same_table ∙ c.requires.table;
      low = omega (arith, long, b.near, c.slot-in-loop-at.ensures, shape.near, shape.small.1);
      held = (
        q.0,
        q.1,
        q.2 ∙ ap (λ l. l ++ drop m c.loop-at.seat.me.1)
            (by_slot shape (c.args.start + at) m c.slot-in-loop-at.result (map Some q.0) (omega (arith, long, b.near)) (length-cells q.0 ∙ q.1) c.slot-in-loop-at.ensures),
      );
    }

pub loop-at-preserved : goal.loop-at-preserved
loop-at-preserved g c =
    let inv = c.loop-at.invariant in
    let b = c.before_wrap-n.ensures in
    let d = c.take_out_run.ensures in
    let shape = c.args.shape.now in
    let n = length c.args.into.now in
    let at = c.loop-at.at in
    let k = at + c.before_wrap-n.result - at in
    let same : length c.loop-at.into ≡ n = c.loop-at.auto.into in
    let fits : at + k ≤ n = omega (arith, inv.few, b.fits, same) in
    let m = length (take k (drop at c.loop-at.into)) in
    let long : m ≡ k = take_long (drop at c.loop-at.into) k (omega (arith, fits, same, length-drop at c.loop-at.into)) in
    let out = borrow.Rule.Slice.PartMut.put_mid at k c.loop-at.into c.take_out_run.new.into in
    let zs = c.take_out_run.new.into in
    let gone : Option g.row.T.Denot = None in
    record {
      same_table = d.seat.0.0 ∙ inv.same_table;
      same_id = d.seat.0.1 ∙ inv.same_id;
      same_view = d.seat.1 ∙ inv.same_view;
      few = omega (arith, inv.few, b.fits, same);
      so = subst (λ j. TakenOut (shape_slot shape) c.args.start n j c.args.seat.now.me.1 c.take_out_run.new.seat.me.1 c.args.into.now out)
          (let q : at + k ≡ at + c.before_wrap-n.result = omega arith in q)
          (take_out_part_next (shape_slot shape) c.args.start n at k c.args.seat.now.me.1 c.loop-at.seat.me.1 c.args.into.now c.loop-at.into refl fits inv.so
          m zs c.take_out_run.new.seat.me.1 out long d.long
          (d.items ∙ ap (λ l. l ++ drop m c.loop-at.seat.me.1)
          (sym (by_slot shape (c.args.start + at) m c.slot-in-loop-at.result (map Some zs) (omega (arith, long, b.near)) (length-cells zs ∙ d.long) c.slot-in-loop-at.ensures)))
          (d.emptied ∙ ap (λ l. drop m c.loop-at.seat.me.1 ++ l)
          (sym (by_slot shape (c.args.start + at) m c.slot-in-loop-at.result (replicate m gone) (omega (arith, long, b.near)) (length-many m gone) c.slot-in-loop-at.ensures)))
          refl);
    }

pub returns-clause-seat : goal.returns-clause-seat
returns-clause-seat g c =
    let inv = c.loop-at.invariant in
    ((inv.same_table, inv.same_id), inv.same_view)

pub returns-clause-emptied : goal.returns-clause-emptied
returns-clause-emptied g c =
    take_out_ends (shape_slot c.args.shape.now) c.args.start (length c.args.into.now) c.args.seat.now.me.1 c.args.into.now refl c.loop-at.at
    (omega (arith, c.loop-at-test.false, c.loop-at.auto.into)) c.loop-at.seat.me.1 c.loop-at.into c.loop-at.invariant.so

pub returns-clause-items : goal.returns-clause-items
returns-clause-items g c =
    take_out_came (shape_slot c.args.shape.now) c.args.start (length c.args.into.now) c.args.seat.now.me.1 c.args.into.now refl c.loop-at.at
    (omega (arith, c.loop-at-test.false, c.loop-at.auto.into)) c.loop-at.seat.me.1 c.loop-at.into c.loop-at.invariant.so

-- a single word
pub take_out_each-requires-clause-held : goal.take_out_each-requires-clause-held
take_out_each-requires-clause-held g c =
    let n = length c.args.into.now in
    let q = c.requires.held in
    let one : n ≡ 1 = omega (arith, c.if-into-eq1.true) in (
      q.0,
      q.1,
      q.2 ∙ ap (λ l. l ++ drop n c.args.seat.now.me.1)
          (one_slot (shape_slot c.args.shape.now) c.args.start c.slot.result (map Some q.0) (length-cells q.0 ∙ (q.1 ∙ one)) c.slot.ensures),
    )

pub returns-then-into-eq1-clause-items : goal.returns-then-into-eq1-clause-items
returns-then-into-eq1-clause-items g c =
    let n = length c.args.into.now in
    let d = c.take_out_each.ensures in
    let zs = c.take_out_each.new.into in
    let one : n ≡ 1 = omega (arith, c.if-into-eq1.true) in
    d.items ∙ ap (λ l. l ++ drop n c.args.seat.now.me.1)
    (sym (one_slot (shape_slot c.args.shape.now) c.args.start c.slot.result (map Some zs) (length-cells zs ∙ (d.long ∙ one)) c.slot.ensures))
