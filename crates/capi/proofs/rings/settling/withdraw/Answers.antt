use Rattle.std.proofs.Common.{[], ap, arith, length, refl, ◌<◌}
use Rattle.geom.specs.declared.plan.Side.TheVariants.{Take}
use Rattle.fabric.specs.Hands.{rings_of}
use Rattle.fabric.specs.InPlace.{placed_view}
use Rattle.capi.proofs.Settled.{early_of}
use Rattle.capi.proofs.rings.settling.withdraw.Goals as goal

pub returns-in-Err-clause-early : goal.returns-in-Err-clause-early
returns-in-Err-clause-early c =
    let r = c.args.reserved in
    let there : r.ring < length (rings_of c.args.f.now) = omega (arith, (c.args.hand.now.take r c.requires.open).there, ap length c.requires.of.1) in
    let found = c.in-Err.ensures in (
      refl,
      found.refused.0,
      found.refused.2,
      early_of c.args.f.now r.ring c.args.k Take r [] (placed_view c.args.hand.now)
          (placed_view c.try_settle_take.new.self) refl there c.requires.plain c.requires.count c.in-Err._fault found.refused.3,
    )
