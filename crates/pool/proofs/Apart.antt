-- What a caller may cite of a cache: its items carry one buffer each, which is the hand's own, and none stands twice
use Rattle.std.proofs.Common.{◌≡◌, ℕ, ◌≤◌, Some, None, arith, true, false}
use Rattle.std.specs.Prelude.{Option}
use Rattle.std.specs.Option.{is_some}
use Rattle.std.specs.List.{flat_map}
use Rattle.burst.specs.declared.tagged.Tagged.{Ghosts}
use Rattle.fabric.specs.declared.stored.Stored.{Ghosts as StoredGhosts}
use Rattle.burst.specs.Numbers.{AreDistinct}
use Rattle.ringcore_laws.specs.Sound.{holds}
use Rattle.ringcore_laws.proofs.Laws.{times_in_is}
use Rattle.fabric.specs.declared.fabric.Fabric.{Fabric}
use Rattle.fabric.specs.declared.hand.cache_hand.CacheHand.{CacheHand}
use Rattle.fabric.specs.Settles.{AreOwnBuffers}
use Rattle.pool.specs.declared.local.Local.{Local}
use Rattle.pool.specs.declared.store.Store.{Ghosts as StoreGhosts}
use Rattle.pool_laws.specs.Hands.{IsIn, IsSameIn, view_in}
use Rattle.pool.specs.Locals.{HasSameHand, IsLocalOf, cache_of, view_of}
use Rattle.pool_laws.proofs.Wholes.{same_mine}

module _ {T : Type 0} {S : Type 0} {C : Type 0} {G : Ghosts T} {H : StoredGhosts S T} {N : ℕ} {K : StoreGhosts C T}
    (l : Local T N S C G H K) where
  pub cache_own : AreOwnBuffers G.numbers (view_of l) (cache_of l)
  cache_own = (l.own, l.single)

  -- a hand that is there has no buffer twice
  held_once : (o : Option (CacheHand T S G H)) → is_some o ≡ true → (b : ℕ) → holds G.numbers b (view_in o).party ≤ 1
  held_once None here b = absurd (let z : false ≡ true = here in cc)
  held_once (Some k) here b = (k.well b).0

  pub cache_apart : AreDistinct (flat_map G.numbers (cache_of l))
  cache_apart b = omega (arith, cache_own.0 b, held_once l.hand l.here b, times_in_is G.numbers b (cache_of l))

module _ {T : Type 0} {S : Type 0} {G : Ghosts T} {H : StoredGhosts S T} {N : ℕ} (f : Fabric T N S) where
  kept_in : (o later : Option (CacheHand T S G H)) → IsSameIn o later → IsIn f o → IsIn f later
  kept_in None later same mine = absurd same
  kept_in (Some k) None same mine = absurd same
  kept_in (Some k) (Some m) same mine = same_mine f k m same mine

  -- a call of the cache alone leaves it a cache of the same fabric
  pub local_kept : {C : Type 0} {K : StoreGhosts C T} (l m : Local T N S C G H K) → HasSameHand l m → IsLocalOf f l → IsLocalOf f m
  local_kept l m same mine = kept_in l.hand m.hand same mine
