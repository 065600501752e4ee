use Rattle.std.proofs.Common.{◌≡◌, ◌+◌, ◌-◌, ◌*◌, ◌/◌, ◌≤◌, ◌++◌, ap, arith, drop, length, refl, subst, take, ◌∙◌}
use Rattle.std.proofs.lemmas.List.{length-drop}
use Rattle.fabric.proofs.Blocks.{TakenOut, take_out_came, take_out_ends, take_out_part_asks, take_out_part_next, take_out_starts}
use Rattle.fabric.proofs.Turns.{take_long}
use Rattle.fabric.proofs.slots.slices.take_out_run.Given.{Over}
use Rattle.fabric.proofs.slots.slices.take_out_run.Goals as goal

pub loop-i-init : goal.loop-i-init
loop-i-init g c =
    let n = length c.args.into.now in
    let q = c.requires.held in
    record {
      same_table = refl;
      same_id = refl;
      same_view = refl;
      so = take_out_starts (λ p. p) c.args.slot n c.args.seat.now.me.1 c.args.into.now refl q.0 q.1 q.2;
    }

pub take_out_each-requires : goal.take_out_each-requires
take_out_each-requires g c =
    let inv = c.loop-i.invariant in
    let n = length c.args.into.now in
    let at = c.loop-i.i * 8 in
    let k = at + 8 - at in
    let fits : at + k ≤ n = omega (arith, c.loop-i-test.true) in
    let e : 8 ≡ k = omega arith in
    record {
      table = inv.same_table ∙ c.requires.table;
      low = omega (arith, fits, c.requires.low);
      held = take_out_part_asks (λ p. p) c.args.slot n at k c.args.seat.now.me.1 c.loop-i.seat.me.1 c.args.into.now c.loop-i.into refl fits inv.so 8 e;
    }

pub loop-i-preserved : goal.loop-i-preserved
loop-i-preserved g c =
    let inv = c.loop-i.invariant in
    let d = c.take_out_each.ensures in
    let n = length c.args.into.now in
    let at = c.loop-i.i * 8 in
    let k = at + 8 - at in
    let fits : at + k ≤ n = omega (arith, c.loop-i-test.true) in
    let e : 8 ≡ k = omega arith in
    record {
      same_table = d.seat.0.0 ∙ inv.same_table;
      same_id = d.seat.0.1 ∙ inv.same_id;
      same_view = d.seat.1 ∙ inv.same_view;
      so = subst (λ m. TakenOut (λ p. p) c.args.slot n m c.args.seat.now.me.1 c.take_out_each.new.seat.me.1 c.args.into.now
          (borrow.Rule.Slice.PartMut.put_mid at k c.loop-i.into c.copy_from_slice.new.self))
          (let q : at + k ≡ (c.loop-i.i + 1) * 8 = omega arith in q)
          (take_out_part_next (λ p. p) c.args.slot n at k c.args.seat.now.me.1 c.loop-i.seat.me.1 c.args.into.now c.loop-i.into refl fits inv.so
          8 c.take_out_each.new.into c.take_out_each.new.seat.me.1 (borrow.Rule.Slice.PartMut.put_mid at k c.loop-i.into c.copy_from_slice.new.self)
          e d.long d.items d.emptied (ap (λ l. take at c.loop-i.into ++ (l ++ drop k (drop at c.loop-i.into))) c.copy_from_slice.ensures.after));
    }

-- the words after the last block
pub take_out_each-requires-2 : goal.take_out_each-requires-2
take_out_each-requires-2 g c =
    let inv = c.loop-i.invariant in
    let n = length c.args.into.now in
    let at = n / 8 * 8 in
    let k = length c.loop-i.into - at in
    let done : c.loop-i.i ≡ n / 8 = omega (arith, c.loop-i-test.false, c.loop-i.auto.i-end) in
    let so = subst (λ m. TakenOut (λ p. p) c.args.slot n (m * 8) c.args.seat.now.me.1 c.loop-i.seat.me.1 c.args.into.now c.loop-i.into) done inv.so in
    let same : length c.loop-i.into ≡ n = c.loop-i.auto.into in
    let fits : at + k ≤ n = omega (arith, same) in
    let long : length (take k (drop at c.loop-i.into)) ≡ k = take_long (drop at c.loop-i.into) k (omega (arith, length-drop at c.loop-i.into)) in
    record {
      table = inv.same_table ∙ c.requires.table;
      low = omega (arith, fits, long, c.requires.low);
      held = take_out_part_asks (λ p. p) c.args.slot n at k c.args.seat.now.me.1 c.loop-i.seat.me.1 c.args.into.now c.loop-i.into refl fits so
          (length (take k (drop at c.loop-i.into))) long;
    }

last : (g : Over) (c : goal.After-into-2-1 g)
    → TakenOut (λ p. p) c.args.slot (length c.args.into.now) (length c.args.into.now / 8 * 8 + (length c.loop-i.into - length c.args.into.now / 8 * 8))
    c.args.seat.now.me.1 c.take_out_each-2.new.seat.me.1 c.args.into.now
    (borrow.Rule.Slice.PartMut.put_mid (length c.args.into.now / 8 * 8) (length c.loop-i.into - length c.args.into.now / 8 * 8) c.loop-i.into
    c.take_out_each-2.new.into)
last g c =
    let inv = c.loop-i.invariant in
    let d = c.take_out_each-2.ensures in
    let n = length c.args.into.now in
    let at = n / 8 * 8 in
    let k = length c.loop-i.into - at in
    let done : c.loop-i.i ≡ n / 8 = omega (arith, c.loop-i-test.false, c.loop-i.auto.i-end) in
    let so = subst (λ m. TakenOut (λ p. p) c.args.slot n (m * 8) c.args.seat.now.me.1 c.loop-i.seat.me.1 c.args.into.now c.loop-i.into) done inv.so in
    let same : length c.loop-i.into ≡ n = c.loop-i.auto.into in
    let fits : at + k ≤ n = omega (arith, same) in
    let long : length (take k (drop at c.loop-i.into)) ≡ k = take_long (drop at c.loop-i.into) k (omega (arith, length-drop at c.loop-i.into)) in
    take_out_part_next (λ p. p) c.args.slot n at k c.args.seat.now.me.1 c.loop-i.seat.me.1 c.args.into.now c.loop-i.into refl fits so
    (length (take k (drop at c.loop-i.into))) c.take_out_each-2.new.into c.take_out_each-2.new.seat.me.1
    (borrow.Rule.Slice.PartMut.put_mid at k c.loop-i.into c.take_out_each-2.new.into) long d.long d.items d.emptied refl

pub returns-clause-seat : goal.returns-clause-seat
returns-clause-seat g c =
    let inv = c.loop-i.invariant in
    let d = c.take_out_each-2.ensures in
    ((d.seat.0.0 ∙ inv.same_table, d.seat.0.1 ∙ inv.same_id), d.seat.1 ∙ inv.same_view)

pub returns-clause-emptied : goal.returns-clause-emptied
returns-clause-emptied g c =
    let n = length c.args.into.now in
    take_out_ends (λ p. p) c.args.slot n c.args.seat.now.me.1 c.args.into.now refl (n / 8 * 8 + (length c.loop-i.into - n / 8 * 8))
    (omega (arith, c.loop-i.auto.into)) c.take_out_each-2.new.seat.me.1 _ (last g c)

pub returns-clause-items : goal.returns-clause-items
returns-clause-items g c =
    let n = length c.args.into.now in
    take_out_came (λ p. p) c.args.slot n c.args.seat.now.me.1 c.args.into.now refl (n / 8 * 8 + (length c.loop-i.into - n / 8 * 8))
    (omega (arith, c.loop-i.auto.into)) c.take_out_each-2.new.seat.me.1 _ (last g c)
