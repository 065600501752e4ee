use Rattle.std.proofs.Common.{arith, ◌<◌, ◌≡◌, subst, sym}
use Rattle.geom.specs.Extent.{range_of}
use Rattle.geom.specs.Plan.{mode_of}
use Rattle.geom.specs.declared.plan.Mode.TheVariants.{Hts}
use Rattle.fabric.specs.declared.plan.Shape.{Shape}
use Rattle.geom.specs.declared.plan.Side.TheVariants.{Put}
use Rattle.fabric.proofs.hand.in_place.HandInPlace.try_put_at.Goals as goal

pub open_span-requires : goal.open_span-requires
open_span-requires g c =
    let counts = subst (λ (z : Shape). mode_of z.plan Put ≡ Hts → c.args.most < range_of z.plan.geometry) (sym c.at-target.ensures.shape) c.requires.counts in
    (omega (arith), (search, (c.args.self.now.idle c.requires.idle, counts)))
