use Rattle.std.proofs.Common.{arith}
use Rattle.geom.specs.declared.plan.Side.TheVariants.{Put}
use Rattle.fabric.proofs.hand.in_place.HandInPlace.try_start_put.Goals as goal

pub open_span-requires : goal.open_span-requires
open_span-requires g c = (omega (arith), (search, (c.args.self.now.idle c.requires.idle, c.ring.result.counts Put)))
