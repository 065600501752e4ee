use Rattle.std.proofs.Common.{arith}
use Rattle.geom.specs.Plan.{mode_of}
use Rattle.fabric.proofs.AtOnce.{reserved_one}
use Rattle.fabric.proofs.Calls.{at_once_call, few_of, own_fits, told_ring, word_low}
use Rattle.fabric.proofs.ring.Ring.reserve_at_once.Goals as goal

pub overflow_add-word : goal.overflow_add-word
overflow_add-word g c =
    let r = c.args.self.now in
    let q = c.requires in
    record {
      fits = word_low r.shape.now.plan.geometry (mode_of r.shape.now.plan c.args.side) c.args.word 1
          (r.fabric.now.fitting.words r.index r.shape.now.plan r.in_plan.0) (omega arith) (omega (arith, q.last)) q.fits;
    }

pub compare_exchange-requires : goal.compare_exchange-requires
compare_exchange-requires g c =
    let f = c.args.self.now.fabric.now in
    let q = c.requires in
    let p = c.args.self.now.shape.now.plan in (
      q.seat.table,
      own_fits f.plan.rings.items c.args.self.now.index _ _ p c.args.side c.args.self.now.in_plan.0 f.words c.own_word.ensures,
      at_once_call g.T.Tagged.numbers f.table.shared.key f.plan f.key _ _ _ c.args.self.now.index _ p c.args.self.now.in_plan.0 q.seat.alive
          c.args.side c.args.word q.seen.0 q.idle c.own_word.ensures q.seen.1 q.whole q.seen.2 q.last q.fits
          (λ put. few_of g.T.Tagged.numbers _ _ _ _ _ q.seat.pool (q.at_most put)),
    )

pub returns-clause-won : goal.returns-clause-won
returns-clause-won g c hit =
    let q = c.requires in
    reserved_one g.T.Tagged.numbers c.args.self.now c.args.side c.args.word _ c.own_word.result c.args.seat.now c.compare_exchange.new.seat q.seat
    c.own_word.ensures c.compare_exchange.result q.seen.0 q.seen.1 q.whole c.compare_exchange.ensures.2.0 hit

pub returns-clause-lost : goal.returns-clause-lost
returns-clause-lost g c miss =
    let q = c.requires in
    let p = c.args.self.now.shape.now.plan in
    let asked = q.seen.1 in
    (c.compare_exchange.ensures.2.0 c.args.self.now.index c.args.side p asked.0 q.seen.0 c.own_word.ensures
    (told_ring _ _ c.args.self.now.index p q.seat.plans c.args.self.now.in_plan.0) asked.1 asked.2 asked.3 asked.4).1 miss
