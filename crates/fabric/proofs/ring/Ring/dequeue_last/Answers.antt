use Rattle.std.proofs.Common.{ap, arith, rules, take, ◌∙◌}
use Rattle.geom.specs.declared.plan.Side.TheVariants.{Take}
use Rattle.fabric_laws.specs.Changes.{settled}
use Rattle.fabric.specs.Views.{span_of}
use Rattle.fabric.proofs.Seats.{seated_on}
use Rattle.fabric.proofs.Settling.{ready_take, taken_long}
use Rattle.fabric.proofs.ring.Ring.dequeue_last.Goals as goal

pub store-requires : goal.store-requires
store-requires g c =
    let q = c.requires in
    let r = c.args.self.now in
    let me = c.args.seat.now.me in
    let k = c.args.k in
    let n = c.args.range.count in
    let w = c.withdraw.ensures in
    let ready =
    ready_take g.T.Tagged.numbers r.fabric.now.plan.rings.items r.shape.now.plan r.index c.args.range.start n me c.withdraw.new.seat.me w.seat.1 k q.held.span
    q.held.whole q.fits w.slots in (
      search rules,
      (
        seated_on r c.args.seat.now c.withdraw.new.seat q.held.seat w.seat.0 w.seat.1,
        (
          q.held.hts,
          (omega (arith, c.args.range.last, q.fits), (take k me.0.shown, n, taken_long k me.0.shown (omega (arith, q.fits, q.held.whole)), ready)),
        ),
      ),
    )

pub returns-clause-done : goal.returns-clause-done
returns-clause-done g c =
    let q = c.requires in
    let r = c.args.self.now in
    let me = c.args.seat.now.me in
    let k = c.args.k in
    let n = c.args.range.count in
    let start = c.args.range.start in
    let w = c.withdraw.ensures in
    let ready =
    ready_take g.T.Tagged.numbers r.fabric.now.plan.rings.items r.shape.now.plan r.index start n me c.withdraw.new.seat.me w.seat.1 k q.held.span
    q.held.whole q.fits w.slots in
    let t = c.store.ensures.done (take k me.0.shown) n (taken_long k me.0.shown (omega (arith, q.fits, q.held.whole))) ready in
    (t.0 ∙ ap (settled (span_of r.index Take start n) (take k me.0.shown)) w.seat.1, t.1, t.2)
