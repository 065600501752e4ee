-- What a contract sees of a pool's cache
use Rattle.std.specs.Prelude.{◌≡◌, ℕ, List, Option}
use Rattle.burst.specs.declared.tagged.Tagged.{Ghosts}
use Rattle.fabric.specs.declared.stored.Stored.{Ghosts as StoredGhosts}
use Rattle.fabric_laws.specs.declared.view.View.{View}
use Rattle.fabric.specs.declared.fabric.Fabric.{Fabric}
use Rattle.fabric.specs.declared.hand.Hand.{Hand}
use Rattle.fabric.specs.declared.hand.cache_hand.CacheHand.{CacheHand}
use Rattle.pool.specs.declared.store.Store.{Ghosts as StoreGhosts}
use Rattle.pool.specs.declared.local.Local.{Local}
use Rattle.pool_laws.specs.Hands.{IsHandIn, IsIn, IsSameIn, view_in}

module _ {T : Type 0} {S : Type 0} {C : Type 0} {G : Ghosts T} {H : StoredGhosts S T} {N : ℕ} {K : StoreGhosts C T} where
  -- the items in the cache, the oldest first
  abbrev pub cache_of : Local T N S C G H K → List T
  cache_of l = K.items l.cache

  abbrev pub cache_size : Local T N S C G H K → ℕ
  cache_size l = l.size

  -- the free ring
  abbrev pub ring_of : Local T N S C G H K → ℕ
  ring_of l = l.ring

  abbrev pub hand_of : Local T N S C G H K → Option (CacheHand T S G H)
  hand_of l = l.hand

  -- the view of its hand
  abbrev pub view_of : Local T N S C G H K → View T
  view_of l = view_in l.hand

  -- its hand comes from this fabric
  abbrev pub IsLocalOf : Fabric T N S → Local T N S C G H K → Type 0
  IsLocalOf f l = IsIn f l.hand

  -- its hand is this one
  abbrev pub HasHand : Hand T S G H → Local T N S C G H K → Type 0
  HasHand h l = IsHandIn h l.hand

  -- the same hand still: it comes from the same fabric, and its view is the same
  abbrev pub HasSameHand : Local T N S C G H K → Local T N S C G H K → Type 0
  HasSameHand l m = IsSameIn l.hand m.hand

  -- the same ring and size
  abbrev pub SameRing : Local T N S C G H K → Local T N S C G H K → Type 0
  SameRing l m = (m.ring ≡ l.ring) × (m.size ≡ l.size)

  -- the same items in the cache
  abbrev pub SameCache : Local T N S C G H K → Local T N S C G H K → Type 0
  SameCache l m = K.items m.cache ≡ K.items l.cache
