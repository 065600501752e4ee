-- A cache's hand, as it goes to the ring and comes back
use Rattle.std.proofs.Common.{◌≡◌, ℕ, List, Some, sym, ap, ◌∙◌, subst}
use Rattle.std.specs.Prelude.{Option}
use Rattle.ringcore_laws.specs.FreeRings.{AreSingle}
use Rattle.ringcore_laws.specs.Moves.{Owns}
use Rattle.burst.specs.declared.tagged.Tagged.{Ghosts}
use Rattle.fabric.specs.declared.stored.Stored.{Ghosts as StoredGhosts}
use Rattle.fabric.specs.declared.fabric.Fabric.{Fabric}
use Rattle.fabric.specs.declared.hand.Hand.{Hand}
use Rattle.fabric.specs.declared.hand.cache_hand.CacheHand.{CacheHand}
use Rattle.fabric.specs.Hands.{IsHandOf, view}
use Rattle.fabric.specs.CacheHands.{IsCacheHandFor, IsCacheHandOf, Keeps, SameCacheHand, view_of_cache_hand}
use Rattle.fabric.specs.Settles.{AreOwnBuffers}
use Rattle.ringapi.specs.Holdings.{IsFreeRing}
use Rattle.pool_laws.specs.Hands.{IsFreeOf, IsIn, KeepsIn, view_in}

module _ {T : Type 0} {S : Type 0} {G : Ghosts T} {H : StoredGhosts S T} {N : ℕ} (f : Fabric T N S) where
  pub mine_of : (o : Option (CacheHand T S G H)) (k : CacheHand T S G H) → o ≡ Some k → IsIn f o → IsCacheHandOf f k
  mine_of o k was mine = subst (IsIn f) was mine

  pub free_of : (o : Option (CacheHand T S G H)) (k : CacheHand T S G H) (ring : ℕ) → o ≡ Some k → IsIn f o → IsFreeRing (view_in o).plans ring → IsFreeOf f ring
  free_of o k ring was mine free =
      subst (λ plans. IsFreeRing plans ring) (mine_of o k was mine).1 (subst (λ o'. IsFreeRing (view_in o').plans ring) was free)

  pub free_at : (k : CacheHand T S G H) (ring : ℕ) → IsCacheHandOf f k → IsFreeOf f ring → IsFreeRing (view_of_cache_hand k).plans ring
  free_at k ring mine free = subst (λ plans. IsFreeRing plans ring) (sym mine.1) free

  pub same_mine : (k l : CacheHand T S G H) → SameCacheHand k l → IsCacheHandOf f k → IsCacheHandOf f l
  same_mine k l same mine =
      (ap (λ s. s.table_id) same ∙ mine.0, ap (λ s. s.me.0.plans) same ∙ mine.1, ap (λ s. s.me.0.pool) same ∙ mine.2)

  -- a hand and a cache_hand with one seat
  pub hand_from : (h : Hand T S G H) (k : CacheHand T S G H) → IsCacheHandFor h k → IsCacheHandOf f k → IsHandOf f h
  hand_from h k same mine =
      (ap (λ s. s.table_id) (sym same) ∙ mine.0, ap (λ s. s.me.0.plans) (sym same) ∙ mine.1, ap (λ s. s.me.0.pool) (sym same) ∙ mine.2)

  pub cache_hand_from : (h : Hand T S G H) (k : CacheHand T S G H) → IsCacheHandFor h k → IsHandOf f h → IsCacheHandOf f k
  cache_hand_from h k same mine =
      (ap (λ s. s.table_id) same ∙ mine.0, ap (λ s. s.me.0.plans) same ∙ mine.1, ap (λ s. s.me.0.pool) same ∙ mine.2)

module _ {T : Type 0} {S : Type 0} {G : Ghosts T} {H : StoredGhosts S T} (tags : T → List ℕ) where
  pub keeps_of : (o : Option (CacheHand T S G H)) (k : CacheHand T S G H) (cache : List T) → o ≡ Some k → KeepsIn tags o cache → Keeps tags k cache
  keeps_of o k cache was keeps = subst (λ o'. KeepsIn tags o' cache) was keeps

  -- what the cache has is the hand's own
  pub hand_own : (o : Option (CacheHand T S G H)) (k : CacheHand T S G H) (h : Hand T S G H) (cache : List T) → o ≡ Some k → IsCacheHandFor h k
      → Owns tags (view_in o).party cache → AreSingle tags cache → AreOwnBuffers tags (view h) cache
  hand_own o k h cache was same own single =
      subst (λ s. AreOwnBuffers tags s.me.0 cache) same (subst (λ o'. AreOwnBuffers tags (view_in o') cache) was (own, single))

  -- it is taken out of the cache after a step that kept its seat
  pub view_later : (o : Option (CacheHand T S G H)) (k l m : CacheHand T S G H) → o ≡ Some k → SameCacheHand k l → Some l ≡ Some m → view_of_cache_hand m ≡ view_in o
  view_later o k l m was same taken = ap view_in (sym taken) ∙ (ap (λ s. s.me.0) same ∙ sym (ap view_in was))

  pub view_at : (o : Option (CacheHand T S G H)) (k : CacheHand T S G H) (h : Hand T S G H) → o ≡ Some k → IsCacheHandFor h k → view h ≡ view_in o
  view_at o k h was same = sym (ap view_in was ∙ ap (λ s. s.me.0) same)
