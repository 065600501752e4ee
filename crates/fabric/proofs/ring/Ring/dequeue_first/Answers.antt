use Rattle.std.proofs.Common.{◌+◌, Some, ap, arith, drop, map, rules, take, ◌∙◌}
use Rattle.geom.specs.declared.plan.Side.TheVariants.{Take}
use Rattle.fabric_laws.specs.Changes.{advanced}
use Rattle.fabric.specs.Rings.{slots_of}
use Rattle.fabric.specs.Views.{span_of}
use Rattle.fabric.proofs.Seats.{seated_on}
use Rattle.fabric.proofs.Settling.{ready_take, taken_long}
use Rattle.fabric.proofs.ring.Ring.dequeue_first.Goals as goal

pub advance-requires : goal.advance-requires
advance-requires g c =
    let q = c.requires in
    let r = c.args.self.now in
    let me = c.args.seat.now.me in
    let k = c.args.k in
    let n = c.args.range.count in
    let w = c.withdraw.ensures in
    let ready =
    ready_take g.T.Tagged.numbers r.fabric.now.plan.rings.items r.shape.now.plan r.index c.args.range.start n me c.withdraw.new.seat.me w.seat.1 k q.held.span
    q.held.whole (omega (arith, q.short)) w.slots in (
      search rules,
      (
        seated_on r c.args.seat.now c.withdraw.new.seat q.held.seat w.seat.0 w.seat.1,
        (q.held.hts, (c.args.range.last, (q.short, (take k me.0.shown, taken_long k me.0.shown (omega (arith, q.short, q.held.whole)), ready)))),
      ),
    )

pub returns-clause-done : goal.returns-clause-done
returns-clause-done g c =
    let q = c.requires in
    let r = c.args.self.now in
    let me = c.args.seat.now.me in
    let k = c.args.k in
    let n = c.args.range.count in
    let start = c.args.range.start in
    let w = c.withdraw.ensures in
    let ready =
    ready_take g.T.Tagged.numbers r.fabric.now.plan.rings.items r.shape.now.plan r.index start n me c.withdraw.new.seat.me w.seat.1 k q.held.span
    q.held.whole (omega (arith, q.short)) w.slots in
    let t = c.advance.ensures.done (take k me.0.shown) (taken_long k me.0.shown (omega (arith, q.short, q.held.whole))) ready in (
      t.0 ∙ ap (advanced (span_of r.index Take start n) (take k me.0.shown)) w.seat.1,
      t.1 ∙ ap (λ v. slots_of r (start + k) (map Some (drop k v.shown))) w.seat.1,
      t.2,
    )
