-- What the calls of a pool return
use Rattle.std.specs.Prelude.{◌≡◌, ◌+◌, ◌<◌, ◌≤◌, ◌++◌, ◌⊎◌, ℕ, List, [], length, Option, Result, Ok, Err, IsOk}
use Rattle.geom.specs.declared.plan.RingPlan.{RingPlan}
use Rattle.burst.specs.declared.tagged.Tagged.{Ghosts}
use Rattle.fabric.specs.declared.stored.Stored.{Ghosts as StoredGhosts}
use Rattle.fabric_laws.specs.declared.view.View.{View}
use Rattle.fabric.specs.declared.hand.Hand.{Hand}
use Rattle.fabric.specs.declared.hand.cache_hand.CacheHand.{CacheHand}
use Rattle.fabric.specs.Settles.{AreNotOwnBuffers, AreOwnBuffers}
use Rattle.fabric.specs.Hands.{view}
use Rattle.pool_laws.specs.Requests.{Fetches, Flushes, Spills}
use Rattle.pool_laws.specs.Hands.{view_in}
use Rattle.pool_laws.specs.Caches.{cached_after_get, cached_after_put, put_on_ring, taken_by_get, threshold}
use Rattle.pool_laws.specs.declared.faults.PoolFault.{PoolFault}
use Rattle.pool_laws.specs.declared.faults.PoolFault.TheVariants.{Short, Worn, CacheFull, NotYours, BadSize}

module _ {T : Type 0} where
  -- A get from the cache alone: it has n items, or too few and isn't changed
  abbrev pub GetsCached : {X : Type 0} → ℕ → List T → Result X PoolFault → List T → List T → Type 0
  GetsCached n cache (Ok x) items later =
      (n ≤ length cache) × (items ≡ taken_by_get n cache []) × (later ≡ cached_after_get n cache [])
  GetsCached n cache (Err e) items later = (length cache < n) × (e ≡ Short) × (items ≡ []) × (later ≡ cache)

module _ {T : Type 0} (tags : T → List ℕ) (v : View T) (size : ℕ) where
  -- A put into the cache alone, with what is left of the list. Items with buffers that aren't the hand's own, or that
  -- are cached, are refused before their number is looked at
  abbrev pub PutsCached : {X : Type 0} → List T → List T → Result X PoolFault → List T → List T → Type 0
  PutsCached cache list (Ok x) rest later =
      AreOwnBuffers tags v (cache ++ list) × (length (cache ++ list) ≤ threshold size)
      × (rest ≡ []) × (later ≡ cache ++ list)
  PutsCached cache list (Err NotYours) rest later =
      AreNotOwnBuffers tags v (cache ++ list) × (rest ≡ list) × (later ≡ cache)
  PutsCached cache list (Err CacheFull) rest later =
      AreOwnBuffers tags v (cache ++ list) × (threshold size < length (cache ++ list))
      × (rest ≡ list) × (later ≡ cache)
  PutsCached cache list (Err Short) rest later = ⊥
  PutsCached cache list (Err Worn) rest later = ⊥
  PutsCached cache list (Err BadSize) rest later = ⊥

  -- why these items can't be a cache of this size, in bursts of `most` items: in the order of the tests
  abbrev pub RefusesCache : ℕ → List T → PoolFault → Type 0
  RefusesCache most items BadSize = (512 < size) ⊎ (most < threshold size + 64)
  RefusesCache most items NotYours =
      (size ≤ 512) × (threshold size + 64 ≤ most) × AreNotOwnBuffers tags v items
  RefusesCache most items CacheFull =
      (size ≤ 512) × (threshold size + 64 ≤ most) × AreOwnBuffers tags v items × (threshold size < length items)
  RefusesCache most items Short = ⊥
  RefusesCache most items Worn = ⊥

module _ {T : Type 0} {S : Type 0} {G : Ghosts T} {H : StoredGhosts S T} (l : Option (CacheHand T S G H)) where
  -- what the ring returned is what the call returns, with its hand as the cache's
  abbrev pub SameAnswer : {X : Type 0} → Result (Hand T S G H) (Hand T S G H × PoolFault) → Result X PoolFault → Type 0
  SameAnswer (Ok h) (Ok x) = view_in l ≡ view h
  SameAnswer (Ok h) (Err e) = ⊥
  SameAnswer (Err h) (Ok x) = ⊥
  SameAnswer (Err h) (Err e) = (e ≡ h.1) × (view_in l ≡ view h.0)

-- What a cache's calls return, whatever holds its items. Its hand is k before a call, and l after it
module _ {T : Type 0} {S : Type 0} {G : Ghosts T} {H : StoredGhosts S T} (tags : T → List ℕ) (most ring size : ℕ)
    (plan : RingPlan) (k l : Option (CacheHand T S G H)) where
  -- What a get of n items returns, with the items that it gets and the cache after it. If the cache has n items, it
  -- makes no request to the ring and isn't refused
  abbrev pub AnswersGet : {X : Type 0} → ℕ → List T → Result X PoolFault → List T → List T → Type 0
  AnswersGet n cache result items later =
      ((n ≤ length cache) × IsOk result × (view_in l ≡ view_in k)
      × (items ≡ taken_by_get n cache []) × (later ≡ cached_after_get n cache []))
      ⊎ ((length cache < n) × (answer : Result (Hand T S G H) (Hand T S G H × PoolFault))
      × Fetches tags most ring plan size (view_in k) n cache answer items later × SameAnswer l answer result)

  -- What a put of a list returns, with what is left of the list and the cache after it. Items with buffers that aren't
  -- the hand's own, or that are cached, are refused before anything else; if the threshold isn't passed, there is no
  -- request to the ring
  abbrev pub AnswersPut : {X : Type 0} → List T → List T → Result X PoolFault → List T → List T → Type 0
  AnswersPut cache list (Ok x) rest later =
      AreOwnBuffers tags (view_in k) (cache ++ list) × (rest ≡ [])
      × (later ≡ cached_after_put size cache list)
      × (((length (cache ++ list) ≤ threshold size) × (view_in l ≡ view_in k))
      ⊎ ((threshold size < length (cache ++ list)) × (h : Hand T S G H)
      × Spills tags most ring plan (view_in k) (put_on_ring size cache list) (Ok h) × (view_in l ≡ view h)))
  AnswersPut cache list (Err NotYours) rest later =
      AreNotOwnBuffers tags (view_in k) (cache ++ list) × (rest ≡ list) × (later ≡ cache) × (view_in l ≡ view_in k)
  AnswersPut cache list (Err Worn) rest later =
      AreOwnBuffers tags (view_in k) (cache ++ list) × (rest ≡ list) × (later ≡ cache)
      × (threshold size < length (cache ++ list)) × (h : Hand T S G H)
      × Spills tags most ring plan (view_in k) (put_on_ring size cache list) (Err h) × (view_in l ≡ view h)
  AnswersPut cache list (Err Short) rest later = ⊥
  AnswersPut cache list (Err CacheFull) rest later = ⊥
  AnswersPut cache list (Err BadSize) rest later = ⊥

  -- what a flush returns, with the cache after it
  abbrev pub AnswersFlush : {X : Type 0} → List T → Result X PoolFault → List T → Type 0
  AnswersFlush cache (Ok x) later =
      (h : Hand T S G H) × Flushes tags most ring plan (view_in k) cache (Ok h) later × (view_in l ≡ view h)
  AnswersFlush cache (Err e) later = (e ≡ Worn)
      × (h : Hand T S G H) × Flushes tags most ring plan (view_in k) cache (Err h) later × (view_in l ≡ view h)
