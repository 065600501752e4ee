use Rattle.std.proofs.Common.{◌+◌, ◌*◌, ◌-◌, ◌≡◌, ◌∙◌, ap, arith, drop, take}
use Rattle.fabric.specs.Hands.{view}
use Rattle.capi.proofs.PoolOpenings.{more_first, put_more}
use Rattle.capi.proofs.pools.opening.fill.Goals as goal

pub loop-i-preserved : goal.loop-i-preserved
loop-i-preserved c =
    let xs = c.args.items.now in
    let a = 4096 * c.loop-i.i in
    let b = c.min-to.result in
    let next : 4096 * (c.loop-i.i + 1) ≡ a + 4096 = omega arith in
    let made = c.in-Ok.ensures in
    record {
      hand = made.hand;
      put = put_more (view c.loop-i.hand).party.settled (view c.in-Ok.back).party.settled (take (4096 * (c.loop-i.i + 1)) xs)
          (take a xs) (take (b - a) (drop a xs)) c.loop-i.invariant.put made.put
          (ap (λ n. take n xs) next ∙ more_first xs a 4096 b (omega (arith, c.if-from-items.false)) c.min-to.ensures);
    }
