use Rattle.std.proofs.Common.{◌<◌, ◌++◌, None, Some, ap, drop, map, replicate, subst, sym, ◌∙◌}
use Rattle.fabric_laws.specs.Kinds.{IsHeldOnce, run}
use Rattle.fabric.specs.Owned.{IsRow}
use Rattle.fabric.specs.Shapes.{shape_slot}
use Rattle.fabric.proofs.Offers.{same_run}
use Rattle.fabric.proofs.Blocks.{all_in_front, none_behind, same_words}
use Rattle.fabric.proofs.ring.Ring.move_out.Goals as goal

pub take_out-requires-clause-held : goal.take_out-requires-clause-held
take_out-requires-clause-held g c =
    let r = c.args.self.now in
    let q = c.requires in
    let s = c.args.share.now.seat in
    let range = c.args.range in
    let row = q.slots ∙ same_run r.fabric.now.plan.rings.items r.index r.shape.now range.start (map Some s.me.0.shown) r.in_plan.1 in
    (s.me.0.shown, q.full, all_in_front (shape_slot r.shape.now) range.start range.count s.me.0.shown s.me.1 q.full row)

pub invariant_of-share : goal.invariant_of-share
invariant_of-share g c =
    let share = c.args.share.now in
    let tags = g.T.Tagged.numbers in
    let is = c.take_out.ensures.seat.1 in
    record {
      counted = share.counted ∙ ap (λ z. z.parts) (sym is);
      alive = subst (λ z. 0 < z.parts) (sym is) share.alive;
      well = subst (λ z. IsHeldOnce tags z.pool z.party) (sym is) share.well;
      row = subst (λ z. IsRow tags z.pool z.party share.owned) (sym is) share.row;
    }

pub returns-clause-slots : goal.returns-clause-slots
returns-clause-slots g c =
    let r = c.args.self.now in
    let q = c.requires in
    let s = c.args.share.now.seat in
    let range = c.args.range in
    let row = q.slots ∙ same_run r.fabric.now.plan.rings.items r.index r.shape.now range.start (map Some s.me.0.shown) r.in_plan.1 in
    c.take_out.ensures.emptied
    ∙ ap (λ l. l ++ run (shape_slot r.shape.now) range.start (replicate range.count None))
    (none_behind (shape_slot r.shape.now) range.start range.count s.me.0.shown s.me.1 q.full row)
    ∙ sym (same_run r.fabric.now.plan.rings.items r.index r.shape.now range.start (replicate range.count None) r.in_plan.1)

pub returns-clause-copied : goal.returns-clause-copied
returns-clause-copied g c =
    let r = c.args.self.now in
    let q = c.requires in
    let s = c.args.share.now.seat in
    let range = c.args.range in
    let row = q.slots ∙ same_run r.fabric.now.plan.rings.items r.index r.shape.now range.start (map Some s.me.0.shown) r.in_plan.1 in
    let d = c.take_out.ensures in (
      same_words (shape_slot r.shape.now) range.start (g.I.Items.items c.take_out.new.self) s.me.0.shown (drop range.count s.me.1) (drop range.count s.me.1)
          (d.long ∙ sym q.full)
          (sym d.items ∙ all_in_front (shape_slot r.shape.now) range.start range.count s.me.0.shown s.me.1 q.full row),
      d.beside,
    )
