use Rattle.std.proofs.Common.{arith}
use Rattle.geom.specs.declared.plan.Side.TheVariants.{Take}
use Rattle.fabric.proofs.hand.in_place.HandInPlace.try_take.Goals as goal

pub try_take_at-requires : goal.try_take_at-requires
try_take_at-requires g c =
    let place = c.place-place.ensures.of in
    (omega (arith), (search, (c.requires.of, (c.requires.idle, (place, (c.known-known.ensures, (c.args.fabric.now.counts _ Take _ place.0, λ longer. absurd (omega (arith, longer)))))))))
