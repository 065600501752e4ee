-- What each call of C's does to a pool's handle: `p` is what it has before the call, `q` after it
use Rattle.std.specs.Prelude.{◌≡◌, ℕ, ◌+◌, ◌<◌, ◌≤◌, ◌⊎◌, ⊤, List, length, Ok, Err}
use Rattle.geom.specs.declared.plan.How.{How}
use Rattle.geom.specs.declared.plan.Side.{Side}
use Rattle.geom.specs.declared.plan.Side.TheVariants.{Take}
use Rattle.pool.specs.Locals.{SameCache, SameRing, cache_of, view_of}
use Rattle.capi.specs.Codes.{Outcome}
use Rattle.capi.specs.Counts.{Looks}
use Rattle.capi.specs.PoolCalls.{Flushes, Gets, Puts, ReceivesFrom, SendsTo, TellsOwner}
use Rattle.capi.specs.PoolMembers.{numbers_of}
use Rattle.capi.specs.declared.pools.member.Number.{Number}
use Rattle.capi.specs.declared.rings.fault.Fault.TheVariants as fault
use Rattle.capi.specs.declared.pools.member.PoolMember.{PoolMember}

-- the rings are the same, and so is what the handle has for later splits
pub record SamePool (p q : PoolMember) : Type 0 where
  pub fabric : q.fabric ≡ p.fabric
  pub spares : q.spares ≡ p.spares
  pub rings : q.rings ≡ p.rings

-- a call on a ring of the pool: there is none of this number, or it does what it says
abbrev pub OnPoolRing : ℕ → PoolMember → PoolMember → Outcome → Type 0 → Type 0 → Type 0
OnPoolRing ring p q outcome same does =
    ((p.rings ≤ ring) × (outcome ≡ Err fault.Ring) × (q ≡ p) × same) ⊎ ((ring < p.rings) × SamePool p q × does)

abbrev pub GetsNumbers : List Number → List Number → PoolMember → PoolMember → Outcome → Type 0
GetsNumbers before after p q outcome = SamePool p q × Gets p.fabric.value p.local q.local before after outcome

abbrev pub PutsNumbers : List Number → PoolMember → PoolMember → Outcome → Type 0
PutsNumbers items p q outcome = SamePool p q × Puts p.fabric.value p.local q.local items outcome

abbrev pub FlushesCache : PoolMember → PoolMember → Outcome → Type 0
FlushesCache p q outcome = SamePool p q × Flushes p.fabric.value p.local q.local outcome

-- ring 0 of the fabric is the free ring, so that these have the numbers from 1 on
abbrev pub SendsNumbers : ℕ → How → List Number → PoolMember → PoolMember → Outcome → Type 0
SendsNumbers ring how items p q outcome =
    OnPoolRing ring p q outcome ⊤ (SendsTo p.fabric.value how (ring + 1) p.local q.local items outcome)

abbrev pub ReceivesNumbers : ℕ → How → List Number → List Number → PoolMember → PoolMember → Outcome → Type 0
ReceivesNumbers ring how before after p q outcome =
    OnPoolRing ring p q outcome (after ≡ before) (ReceivesFrom p.fabric.value how (ring + 1) p.local q.local before after outcome)

-- how many numbers are queued on a ring, or how many more it takes
abbrev pub CountsNumbers : ℕ → Side → PoolMember → PoolMember → Outcome → Type 0
CountsNumbers ring side p q outcome = OnPoolRing ring p q outcome ⊤
    (SameRing p.local q.local × SameCache p.local q.local
    × Looks numbers_of p.fabric.value (ring + 1) side (view_of p.local) (view_of q.local) outcome)

-- how many numbers are on the free ring
abbrev pub CountsFree : PoolMember → PoolMember → Outcome → Type 0
CountsFree p q outcome = SamePool p q × SameRing p.local q.local × SameCache p.local q.local
    × Looks numbers_of p.fabric.value 0 Take (view_of p.local) (view_of q.local) outcome

abbrev pub TellsCached : PoolMember → PoolMember → Outcome → Type 0
TellsCached p q outcome = (q ≡ p) × (outcome ≡ Ok (length (cache_of p.local)))

abbrev pub TellsOwned : ℕ → PoolMember → PoolMember → Outcome → Type 0
TellsOwned number p q outcome = (q ≡ p) × TellsOwner (view_of p.local) number outcome
