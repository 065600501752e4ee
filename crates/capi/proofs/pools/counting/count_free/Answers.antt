use Rattle.std.proofs.Common.{◌≡◌, Ok, refl, rules, subst}
use Rattle.geom.specs.declared.plan.Side.TheVariants.{Take}
use Rattle.pool.specs.Locals.{view_of}
use Rattle.capi.specs.Counts.{Looks}
use Rattle.capi.specs.PoolMembers.{NumberRings, numbers_of}
use Rattle.capi.proofs.pools.counting.count_free.Goals as goal

pub returns : goal.returns
returns c =
    let p = c.args.pool.now in
    let m = c.count_at.new.local in
    let same : c.deref.result.now ≡ p.fabric.value = search rules in (
      record { fabric = refl; spares = refl; rings = refl },
      c.count_at.ensures.same.0,
      c.count_at.ensures.same.1,
      subst (λ (f : NumberRings). Looks numbers_of f 0 Take (view_of p.local) (view_of m) (Ok c.count_at.result)) same c.count_at.ensures.found,
    )
