use Rattle.std.proofs.Common.{[], ap, arith, length, refl, ◌<◌}
use Rattle.geom.specs.Plan.{mode_of}
use Rattle.geom.specs.declared.plan.Side.TheVariants.{Take}
use Rattle.fabric.specs.Hands.{rings_of}
use Rattle.fabric.specs.InPlace.{placed_view}
use Rattle.capi.proofs.Settled.{all_fit, early_of, none_tagged}
use Rattle.capi.proofs.rings.settling.withdraw_all.Goals as goal

pub returns-in-Err-clause-early : goal.returns-in-Err-clause-early
returns-in-Err-clause-early c =
    let r = c.args.reserved in
    let n = r.range.count in
    let there : r.ring < length (rings_of c.args.f.now) = omega (arith, (c.args.hand.now.take r c.requires.open).there, ap length c.requires.of.1) in
    let found = c.in-Err.ensures in (
      refl,
      found.refused.0,
      early_of c.args.f.now r.ring n Take r [] (placed_view c.args.hand.now) (placed_view c.try_settle_all_taken.new.self) refl there
          c.requires.plain (λ plan at. all_fit (mode_of plan Take) n n refl) c.in-Err._fault found.refused.2,
    )

pub try_settle_all_taken-requires : goal.try_settle_all_taken-requires
try_settle_all_taken-requires c =
    (omega (arith), (omega (arith), (c.requires.of, (c.requires.open, none_tagged (placed_view c.args.hand.now).shown))))
