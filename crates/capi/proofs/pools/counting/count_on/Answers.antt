use Rattle.std.proofs.Common.{◌≡◌, ◌+◌, ◌<◌, Ok, inr, refl, rules, subst}
use Rattle.pool.specs.Locals.{view_of}
use Rattle.capi.specs.Counts.{Looks}
use Rattle.capi.specs.PoolMembers.{NumberRings, numbers_of}
use Rattle.capi.proofs.pools.counting.count_on.Goals as goal

pub returns : goal.returns
returns c =
    let p = c.args.pool.now in
    let m = c.count_at.new.local in
    let there : c.args.ring < p.rings = search rules in
    let same : c.deref.result.now ≡ p.fabric.value = search rules in
    inr (
      there,
      record { fabric = refl; spares = refl; rings = refl },
      (
        c.count_at.ensures.same.0,
        c.count_at.ensures.same.1,
        subst (λ (f : NumberRings). Looks numbers_of f (c.args.ring + 1) c.args.side (view_of p.local) (view_of m) (Ok c.count_at.result)) same
            c.count_at.ensures.found,
      ),
    )
