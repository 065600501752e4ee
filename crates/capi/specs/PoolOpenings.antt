-- Opening a pool of numbers, and splitting its handle
use Rattle.std.specs.Prelude.{◌≡◌, ℕ, ◌<◌, ◌≤◌, ◌⊎◌, List, [], ◌∷◌, ◌++◌}
use Rattle.geom.specs.declared.plan.Side.TheVariants.{Put}
use Rattle.ringcore_laws.specs.declared.party.Settled.{Settled}
use Rattle.ringcore_laws.specs.Party.{newcomer}
use Rattle.fabric.specs.Hands.{pool_of}
use Rattle.ringapi.specs.Views.{settlement}
use Rattle.pool.specs.Locals.{cache_of, cache_size, view_of}
use Rattle.capi.specs.declared.rings.fault.Fault.{Fault}
use Rattle.capi.specs.declared.rings.fault.Fault.TheVariants as fault
use Rattle.capi.specs.PoolMembers.{all_numbers}
use Rattle.capi.specs.declared.pools.member.TheConstants.{MAX_CACHE, MAX_POOL, MAX_POOL_RINGS}
use Rattle.capi.specs.declared.pools.member.Number.{Number}
use Rattle.capi.specs.declared.pools.member.PoolMember.{PoolMember}

-- these numbers were put on the free ring, in order, span by span, and nothing else was settled
abbrev pub ArePut : List (Settled Number) → List Number → Type 0
ArePut [] numbers = numbers ≡ []
ArePut (s ∷ before) numbers = (front : List Number) × (numbers ≡ front ++ s.items) × (s.ring ≡ 0) × (s.side ≡ Put)
    × ArePut before front

-- one more span of these numbers was put on the free ring
abbrev pub HasPut : List Number → List (Settled Number) → List (Settled Number) → Type 0
HasPut items before after = (start : ℕ) × (after ≡ settlement 0 Put start items ∷ before)

-- a pool of n numbers that has just been opened: all numbers were put on the free ring, in order, and none is cached
pub record IsNewPool (n size rings : ℕ) (p : PoolMember) : Type 0 where
  pub pool : pool_of p.fabric.value ≡ n
  pub many : p.rings ≡ rings
  pub cache : cache_size p.local ≡ size
  pub empty : cache_of p.local ≡ []
  pub put : ArePut (view_of p.local).party.settled (all_numbers n)

-- there can be a pool of n numbers with this size of cache and as many rings to pass them on, or there can't
pub record IsPoolSize (n size rings : ℕ) : Type 0 where
  pub some : 0 < n
  pub few : n ≤ MAX_POOL
  pub small : size ≤ MAX_CACHE
  pub most : rings ≤ MAX_POOL_RINGS

abbrev pub NoPoolSize : ℕ → ℕ → ℕ → Type 0
NoPoolSize n size rings = (n ≡ 0) ⊎ ((MAX_POOL < n) ⊎ ((MAX_CACHE < size) ⊎ (MAX_POOL_RINGS < rings)))

-- no such pool can be, or there was no memory
abbrev pub RefusesPool : ℕ → ℕ → ℕ → Fault → Type 0
RefusesPool n size rings why = ((why ≡ fault.Plan) × NoPoolSize n size rings) ⊎ (why ≡ fault.Memory)

-- a second handle on the same rings, without a number, with a cache of the same size
pub record IsSecond (p other : PoolMember) : Type 0 where
  pub fabric : other.fabric.value ≡ p.fabric.value
  pub rings : other.rings ≡ p.rings
  pub size : cache_size other.local ≡ cache_size p.local
  pub empty : cache_of other.local ≡ []
  pub party : (view_of other.local).party ≡ newcomer []
