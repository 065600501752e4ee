use Rattle.std.proofs.Common.{arith, refl}
use Rattle.geom.specs.declared.plan.Side.TheVariants.{Take}
use Rattle.fabric.proofs.hand.in_place.HandInPlace.try_start_take.Goals as goal

pub open_take-requires : goal.open_take-requires
open_take-requires g c =
    (omega (arith), (search, (c.args.self.now.idle c.requires.idle, (c.ring.result.counts Take, (λ m few most. omega (arith, few, c.requires.fits), refl)))))
