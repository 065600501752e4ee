-- What a contract sees of the hand in a cache
use Rattle.std.specs.Prelude.{◌≡◌, ◌+◌, ℕ, List, Option, Some, None}
use Rattle.ringcore_laws.specs.Sound.{holds, occurrences_in}
use Rattle.burst.specs.declared.tagged.Tagged.{Ghosts}
use Rattle.fabric.specs.declared.stored.Stored.{Ghosts as StoredGhosts}
use Rattle.fabric_laws.specs.declared.view.View.{View}
use Rattle.fabric_laws.specs.Changes.{spent}
use Rattle.fabric.specs.declared.fabric.Fabric.{Fabric}
use Rattle.fabric.specs.declared.hand.Hand.{Hand}
use Rattle.fabric.specs.declared.hand.cache_hand.CacheHand.{CacheHand}
use Rattle.fabric.specs.Hands.{rings_of}
use Rattle.fabric.specs.CacheHands.{IsCacheHandFor, IsCacheHandOf, SameCacheHand, spare, view_of_cache_hand}
use Rattle.ringapi.specs.Holdings.{IsFreeRing}

module _ {T : Type 0} {S : Type 0} {G : Ghosts T} {H : StoredGhosts S T} where
  -- the view of a hand that is there
  abbrev pub view_in : Option (CacheHand T S G H) → View T
  view_in None = spent
  view_in (Some k) = view_of_cache_hand k

  -- it is there, and comes from this fabric
  abbrev pub IsIn : {N : ℕ} → Fabric T N S → Option (CacheHand T S G H) → Type 0
  IsIn f None = ⊥
  IsIn f (Some k) = IsCacheHandOf f k

  -- it is there, and is this hand
  abbrev pub IsHandIn : Hand T S G H → Option (CacheHand T S G H) → Type 0
  IsHandIn h None = ⊥
  IsHandIn h (Some k) = IsCacheHandFor h k

  -- it is the same hand still
  abbrev pub IsSameIn : Option (CacheHand T S G H) → Option (CacheHand T S G H) → Type 0
  IsSameIn None after = ⊥
  IsSameIn (Some k) None = ⊥
  IsSameIn (Some k) (Some l) = SameCacheHand k l

  -- how often it has a buffer other than those that it sets aside
  abbrev pub spare_in : Option (CacheHand T S G H) → ℕ → ℕ
  spare_in None b = 0
  spare_in (Some k) b = spare k b

  -- the buffers that it sets aside are those of these items
  abbrev pub KeepsIn : (T → List ℕ) → Option (CacheHand T S G H) → List T → Type 0
  KeepsIn tags o items = (b : ℕ) → spare_in o b + occurrences_in tags b items ≡ holds tags b (view_in o).party

-- a ring of a fabric is a free ring
abbrev pub IsFreeOf : {T : Type 0} {N : ℕ} {S : Type 0} → Fabric T N S → ℕ → Type 0
IsFreeOf f ring = IsFreeRing (rings_of f) ring
