use Rattle.std.proofs.Common.{◌++◌, None, Some, ap, drop, map, replicate, sym, take, ◌∙◌}
use Rattle.fabric.specs.Shapes.{shape_slot}
use Rattle.fabric.proofs.Advancing.{turn_ends, turn_long, words_are, words_many, words_start}
use Rattle.fabric.proofs.Offers.{same_run}
use Rattle.fabric.proofs.ring.Ring.withdraw.Goals as goal

pub take_out-requires-clause-held : goal.take_out-requires-clause-held
take_out-requires-clause-held g c =
    let q = c.requires in
    let r = c.args.self.now in
    let me = c.args.seat.now.me in
    let range = c.args.range in
    let k = c.args.k in
    let has = q.held.slots ∙ same_run r.fabric.now.plan.rings.items r.index r.shape.now range.start (map Some me.0.shown) r.in_plan.1 in (
      take k me.0.shown,
      words_many (shape_slot r.shape.now) range.start range.count k me.0.shown q.fits q.held.whole me.1 has,
      words_start (shape_slot r.shape.now) range.start range.count k me.0.shown q.fits q.held.whole me.1 has,
    )

pub skip-requires : goal.skip-requires
skip-requires g c =
    let q = c.requires in
    let r = c.args.self.now in
    let me = c.args.seat.now.me in
    let range = c.args.range in
    let has = q.held.slots ∙ same_run r.fabric.now.plan.rings.items r.index r.shape.now range.start (map Some me.0.shown) r.in_plan.1 in
    turn_long (shape_slot r.shape.now) range.start range.count c.args.k me.0.shown q.fits q.held.whole me.1 has c.take_out.new.seat.me.1 c.take_out.ensures.emptied

pub returns-clause-slots : goal.returns-clause-slots
returns-clause-slots g c =
    let q = c.requires in
    let r = c.args.self.now in
    let me = c.args.seat.now.me in
    let range = c.args.range in
    let k = c.args.k in
    let has = q.held.slots ∙ same_run r.fabric.now.plan.rings.items r.index r.shape.now range.start (map Some me.0.shown) r.in_plan.1 in
    ap (λ m. m.1) c.skip.ensures.2
    ∙ (turn_ends (shape_slot r.shape.now) range.start range.count k me.0.shown q.fits q.held.whole me.1 has c.take_out.new.seat.me.1 c.take_out.ensures.emptied
    ∙ sym (same_run r.fabric.now.plan.rings.items r.index r.shape.now range.start (replicate k None ++ drop k (map Some me.0.shown)) r.in_plan.1))

pub returns-clause-items : goal.returns-clause-items
returns-clause-items g c =
    let q = c.requires in
    let r = c.args.self.now in
    let me = c.args.seat.now.me in
    let range = c.args.range in
    let has = q.held.slots ∙ same_run r.fabric.now.plan.rings.items r.index r.shape.now range.start (map Some me.0.shown) r.in_plan.1 in
    words_are (shape_slot r.shape.now) range.start range.count c.args.k me.0.shown q.fits q.held.whole me.1 has (g.I.Items.items c.take_out.new.self)
    c.take_out.ensures.long c.take_out.ensures.items
