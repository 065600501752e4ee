use Rattle.std.proofs.Common.{ap, arith, length}
use Rattle.std.proofs.lemmas.List.FromFn.{length-map-range_with_len}
use Rattle.fabric.specs.Hands.{pool_of}
use Rattle.capi.specs.declared.pools.member.Number.{Number}
use Rattle.capi.proofs.pools.opening.stocked.Goals as goal

pub fill-requires-clause-few : goal.fill-requires-clause-few
fill-requires-clause-few c =
    let n = pool_of c.args.fabric in
    omega (arith, ap length c.requires.all, length-map-range_with_len {X = Number} (λ k. record { value = k }) 0 n, c.requires.few)
