use Rattle.std.proofs.Common.{ap, arith, length, refl, ◌<◌}
use Rattle.geom.specs.declared.plan.Side.TheVariants.{Put}
use Rattle.fabric.specs.Hands.{rings_of}
use Rattle.fabric.specs.InPlace.{placed_view}
use Rattle.capi.proofs.Settled.{early_of}
use Rattle.capi.proofs.rings.settling.publish.Goals as goal

pub returns-in-Err-clause-early : goal.returns-in-Err-clause-early
returns-in-Err-clause-early c =
    let r = c.args.reserved in
    let there : r.ring < length (rings_of c.args.f.now) = omega (arith, (c.args.hand.now.put r c.requires.open).there, ap length c.requires.of.1) in
    let found = c.in-Err.ensures in (
      refl,
      found.refused.0,
      early_of c.args.f.now r.ring (length c.args.words.now) Put r c.args.words.now (placed_view c.args.hand.now)
          (placed_view c.try_settle_put.new.self) refl there c.requires.plain c.requires.count c.in-Err._fault found.refused.2,
    )
