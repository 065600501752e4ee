-- What a pool's handle has: a cache of numbers on a set of rings, of which ring 0 is the free ring
use Rattle.std.specs.Prelude.{◌≡◌, ℕ, true, List, [], ◌∷◌, Option, Some, map, slice_get}
use Rattle.std.specs.List.{range_with_len}
use Rattle.geom.specs.declared.plan.RingPlan.{RingPlan}
use Rattle.geom.specs.declared.plan.Mode.TheVariants.{Hts}
use Rattle.burst.specs.declared.tagged.Tagged.{Ghosts}
use Rattle.fabric.specs.declared.stored.Stored.{Ghosts as StoredGhosts}
use Rattle.fabric.specs.declared.fabric.Fabric.{Fabric}
use Rattle.fabric.specs.CacheHands.{IsCacheHandOf}
use Rattle.pool.specs.declared.local.Local.{Local}
use Rattle.pool.specs.declared.store.Store.{Ghosts as StoreGhosts}
use Rattle.pool.specs.Locals.{hand_of}
use Rattle.capi.specs.declared.pools.member.Number.{Number}

-- rings of numbers
abbrev pub NumberRings : Type 0
NumberRings = Fabric Number 4096 (Option Number)

-- a number is a buffer
abbrev pub numbers_of : Number → List ℕ
numbers_of n = n.value ∷ []

-- the numbers below n
abbrev pub all_numbers : ℕ → List Number
all_numbers n = map (λ k. record { value = k }) (range_with_len 0 n)

-- a ring of a pool: both sides are head/tail-sync
abbrev pub IsPoolRing : RingPlan → Type 0
IsPoolRing plan = (plan.put ≡ Hts) × (plan.take ≡ Hts)

-- the rings of a pool: each is one, and the first is a free ring
pub record ArePoolRings (plans : List RingPlan) : Type 0 where
  pub each : (ring : ℕ) (plan : RingPlan) → slice_get plans ring ≡ Some plan → IsPoolRing plan
  pub first : (plan : RingPlan) → slice_get plans 0 ≡ Some plan → plan.free ≡ true

module _ {G : Ghosts Number} {H : StoredGhosts (Option Number) Number} where
  -- the cache's hand comes from these rings
  abbrev pub SuitsCache : {C : Type 0} {K : StoreGhosts C Number} → NumberRings → Local Number 4096 (Option Number) C G H K → Type 0
  SuitsCache f l = (k : _) → hand_of l ≡ Some k → IsCacheHandOf f k
