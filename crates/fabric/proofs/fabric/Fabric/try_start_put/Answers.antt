use Rattle.std.proofs.Common.{arith}
use Rattle.geom.specs.declared.plan.Side.TheVariants.{Put}
use Rattle.fabric.proofs.fabric.Fabric.try_start_put.Goals as goal

pub open_span-requires : goal.open_span-requires
open_span-requires g c = (omega (arith), (search, (search, c.ring-target.result.counts Put)))
