use Rattle.std.proofs.Common.{arith}
use Rattle.geom.specs.declared.plan.Side.TheVariants.{Take}
use Rattle.fabric.proofs.hand.in_place.HandInPlace.try_hold_take.Goals as goal

pub open_span-requires : goal.open_span-requires
open_span-requires g c = (omega (arith), (search, (c.args.self.now.idle c.requires.idle, c.ring.result.counts Take)))
