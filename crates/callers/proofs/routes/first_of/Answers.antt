use Rattle.std.proofs.Common.{◌≡◌, ◌+◌, ◌-◌, ◌<◌, ◌^◌, subst, arith}
use Rattle.std.proofs.lemmas.Nat.{shr_below}
use Rattle.callers.proofs.routes.first_of.Goals as goal

pub returns-clause-below : goal.returns-clause-below
returns-clause-below c =
    let bits = c.args.bits in
    let whole : 32 ≡ bits + (32 - bits) = omega (arith, c.requires.most) in
    shr_below c.args.address bits (32 - bits) (subst (λ n. c.args.address < 2 ^ n) whole c.ranges.address.fits)
