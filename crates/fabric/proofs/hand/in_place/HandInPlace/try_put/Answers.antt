use Rattle.std.proofs.Common.{arith}
use Rattle.geom.specs.declared.plan.Side.TheVariants.{Put}
use Rattle.fabric.proofs.hand.in_place.HandInPlace.try_put.Goals as goal

pub try_put_at-requires : goal.try_put_at-requires
try_put_at-requires g c =
    let place = c.place-place.ensures.of in
    (omega (arith), (search, (c.requires.of, (c.requires.idle, (place, (c.known-known.ensures, (c.args.fabric.now.counts _ Put _ place.0, λ longer. absurd (omega (arith, longer)))))))))
