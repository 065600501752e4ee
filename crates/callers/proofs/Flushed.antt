-- A cache that was flushed is empty.
use Rattle.std.proofs.Common.{◌≡◌, ℕ, ◌<◌, List, [], Option, Some, None, Result, Ok, Err, length, refl, true, false}
use Rattle.std.specs.Result.{is_ok}
use Rattle.burst.specs.declared.tagged.Tagged.{Ghosts}
use Rattle.fabric.specs.declared.stored.Stored.{Ghosts as StoredGhosts}
use Rattle.fabric.specs.declared.fabric.Fabric.{Fabric}
use Rattle.fabric.specs.declared.hand.cache_hand.CacheHand.{CacheHand}
use Rattle.fabric.specs.Hands.{OnRing, rings_of}
use Rattle.fabric.proofs.Told.{ring_at}
use Rattle.ringapi.specs.Holdings.{IsFreeRing}
use Rattle.pool_laws.specs.Hands.{IsIn, view_in}
use Rattle.pool_laws.specs.declared.faults.PoolFault.{PoolFault}
use Rattle.pool_laws.proofs.Wholes.{free_of}
use Rattle.pool.specs.Calls.{FlushTells}
use Rattle.pool.specs.Locals.{IsLocalOf, cache_of, ring_of}
use Rattle.pool.specs.declared.store.Store.{Ghosts as StoreGhosts}
use Rattle.pool.specs.declared.local.Local.{Local}

module _ {T : Type 0} {S : Type 0} {G : Ghosts T} {H : StoredGhosts S T} {N : ℕ} (f : Fabric T N S) where
  free_there : (o : Option (CacheHand T S G H)) (ring : ℕ) → IsIn f o → IsFreeRing (view_in o).plans ring → ring < length (rings_of f)
  free_there None ring mine free = absurd mine
  free_there (Some k) ring mine free = (free_of f (Some k) k ring refl mine free).0

  -- whatever the flush returned, if it returned Ok
  pub flushed_empty : {C : Type 0} {K : StoreGhosts C T} {X : Type 0} (l m : Local T N S C G H K) (r : Result X PoolFault)
      → IsLocalOf f l → OnRing f (ring_of l) (λ plan. FlushTells G.numbers plan l m r) → is_ok r ≡ true → cache_of m ≡ []
  flushed_empty l m (Ok x) mine told ok =
      let plan = ring_at (rings_of f) l.ring (free_there l.hand l.ring mine l.free) in
      (told plan.0 plan.1).1.0
  flushed_empty l m (Err e) mine told ok = absurd (let z : false ≡ true = ok in cc)
