use Rattle.std.proofs.Common.{◌≡◌, ℕ, subst}
use Rattle.geom.specs.Plan.{mode_of}
use Rattle.fabric_laws.specs.Refusals.{Was}
use Rattle.fabric_laws.specs.Words.{settled_word_at}
use Rattle.fabric.proofs.Calls.{count_call, settled_fits}
use Rattle.fabric.proofs.ring.Ring.settled_up_to.Goals as goal

pub load-found-requires : goal.load-found-requires
load-found-requires g c =
    let f = c.args.self.now.fabric.now in
    let q = c.requires in
    let p = c.args.self.now.shape.now.plan in
    let ring = c.args.self.now.index in
    let side = c.args.side in
    let word : c.settled_word.result ≡ settled_word_at (mode_of p side) ring side = c.settled_word.ensures in (
      q.seat.table,
      settled_fits f.plan.rings.items ring _ _ p (mode_of p side) side c.args.self.now.in_plan.0 f.words word,
      count_call g.T.Tagged.numbers f.table.shared.key f.plan f.key _ _ _ ring _ p c.args.self.now.in_plan.0 q.seat.alive,
    )

pub returns-clause-was : goal.returns-clause-was
returns-clause-was g c =
    let p = c.args.self.now.shape.now.plan in
    let ring = c.args.self.now.index in
    let side = c.args.side in
    let word : c.settled_word.result ≡ settled_word_at (mode_of p side) ring side = c.settled_word.ensures in (
      c.load-found.result,
      c.position.ensures,
      subst (λ (i : ℕ). Was g.T.Tagged.numbers c.args.seat.now.me.0 i c.load-found.result) word c.load-found.ensures.2.1,
    )
