use Rattle.std.proofs.Common.{◌≡◌, ◌+◌, arith, ap, subst, sym}
use Rattle.std.specs.Prelude.{replicate, slice_set}
use Rattle.fabric.specs.Making.{WordsMayStand}
use Rattle.capi.specs.PoolMembers.{ArePoolRings}
use Rattle.capi.proofs.PoolOpenings.{fits_all, pool_rings, pool_stands}
use Rattle.capi.proofs.pools.opening.plans.Goals as goal

pub returns-clause-made : goal.returns-clause-made
returns-clause-made c =
    let n = c.args.n in
    let many = c.args.rings + 1 in
    let first = c.same_mode.result in
    let other = c.same_mode-other.result in
    let is = c.same_mode.ensures in
    let was = c.same_mode-other.ensures in
    let all : c.in-Ok.made.items ≡ replicate many other = c.in-Ok.ensures.items_if_clones_equal (λ y same. same) in
    subst (λ xs. ArePoolRings (slice_set xs 0 first) × WordsMayStand (slice_set xs 0 first) n 4096) (sym all) (
      pool_rings first other many (ap (λ p. p.free) is) (ap (λ p. p.put) is, ap (λ p. p.take) is)
          (ap (λ p. p.put) was, ap (λ p. p.take) was),
      pool_stands first other many n (omega arith) (omega (arith, c.requires.rings)) c.requires.few
          (fits_all first n (ap (λ p. p.geometry) is) c.extent-geometry.ensures.extent c.extent-geometry.ensures.capacity
          c.extent-geometry.ensures.counts)
          (fits_all other n (ap (λ p. p.geometry) was) c.extent-geometry.ensures.extent c.extent-geometry.ensures.capacity
          c.extent-geometry.ensures.counts),
    )
