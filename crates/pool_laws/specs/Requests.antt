-- What the bulk requests of a cache return
use Rattle.std.specs.Prelude.{◌≡◌, ◌+◌, ◌-◌, ◌<◌, ◌⊎◌, ℕ, List, [], length, take, drop, Result, Ok, Err, IsOk}
use Rattle.geom.specs.declared.plan.RingPlan.{RingPlan}
use Rattle.burst.specs.declared.tagged.Tagged.{Ghosts}
use Rattle.fabric.specs.declared.stored.Stored.{Ghosts as StoredGhosts}
use Rattle.fabric_laws.specs.declared.view.View.{View}
use Rattle.fabric.specs.declared.hand.Hand.{Hand}
use Rattle.fabric.specs.declared.hand.cache_hand.CacheHand.{CacheHand}
use Rattle.fabric.specs.declared.hand.StartFault.{StartFault}
use Rattle.fabric.specs.declared.hand.StartFault.TheVariants.{Busy, Contended, NoRoom, BadCount}
use Rattle.fabric.specs.declared.hand.StartFault.TheVariants as start
use Rattle.fabric.specs.Hands.{view}
use Rattle.fabric.specs.CacheHands.{IsCacheHandFor}
use Rattle.ringapi.specs.declared.answers.Moved.{Moved}
use Rattle.ringapi.specs.declared.answers.PutAnswer.TheVariants as put
use Rattle.ringapi.specs.declared.answers.Refusal.TheVariants.{Start}
use Rattle.ringapi.specs.declared.answers.TakeAnswer.TheVariants as taken
use Rattle.ringapi.specs.Puts.{PutHasTold}
use Rattle.ringapi.specs.Takes.{TakeHasTold}
use Rattle.ringapi.specs.Views.{by_bulk}
use Rattle.pool_laws.specs.Caches.{cached_after_get, taken_by_get}
use Rattle.pool_laws.specs.declared.faults.PoolFault.{PoolFault}
use Rattle.pool_laws.specs.declared.faults.PoolFault.TheVariants.{Short, Worn, CacheFull, NotYours, BadSize}

-- what a refused take means to a caller that wants buffers
abbrev pub refusal_of : StartFault → PoolFault
refusal_of (Busy x) = Short
refusal_of (Contended x) = Short
refusal_of (NoRoom left) = Short
refusal_of start.Worn = Worn
refusal_of BadCount = Short

module _ {T : Type 0} {S : Type 0} {G : Ghosts T} {H : StoredGhosts S T} (tags : T → List ℕ) (most ring : ℕ) (plan : RingPlan) where
  -- What one bulk take of n items returns, tried until it succeeded or was refused: n items, or none. Short is returned
  -- only if it was NoRoom, Worn only if it was Worn
  abbrev pub Takes : View T → ℕ → Result (Hand T S G H) (Hand T S G H × PoolFault) → List T → Type 0
  Takes v n (Ok h) items = (length items ≡ n) × (moved : Moved)
      × TakeHasTold {N = most} tags by_bulk n ring plan v (taken.Done h moved) items
  Takes v n (Err (h, Short)) items = (left : ℕ)
      × TakeHasTold {N = most} tags by_bulk n ring plan v (taken.Refused h (NoRoom left)) items
  Takes v n (Err (h, Worn)) items = TakeHasTold {N = most} tags by_bulk n ring plan v (taken.Refused h start.Worn) items
  Takes v n (Err (h, CacheFull)) items = ⊥
  Takes v n (Err (h, NotYours)) items = ⊥
  Takes v n (Err (h, BadSize)) items = ⊥

  -- What a get requests from the ring if the cache lacks `missing` items: a bulk take of those and `size` more; if that
  -- is refused, and it was of more, one of `missing` alone
  abbrev pub Refills : ℕ → View T → ℕ → Result (Hand T S G H) (Hand T S G H × PoolFault) → List T → Type 0
  Refills size v missing result items =
      (((size ≡ 0) ⊎ IsOk result) × Takes v (missing + size) result items)
      ⊎ ((0 < size) × (h : Hand T S G H) × (e : PoolFault) × Takes v (missing + size) (Err (h, e)) []
      × Takes (view h) missing result items)

  -- What a bulk put of these items returns, tried until it succeeded or was refused: all of them are put, or the ring
  -- is worn
  abbrev pub Spills : View T → List T → Result (Hand T S G H) (Hand T S G H) → Type 0
  Spills v items (Ok h) = (moved : Moved)
      × PutHasTold {N = most} tags by_bulk ring plan v items (put.Done h moved) []
  Spills v items (Err h) = PutHasTold {N = most} tags by_bulk ring plan v items (put.Refused h (Start start.Worn)) items

  -- What a get of n items returns if the cache has fewer, with the items that it gets and the cache after it. The items
  -- that the last request took are `taken`
  abbrev pub Deals : ℕ → List T → Result (Hand T S G H) (Hand T S G H × PoolFault) → List T → List T → List T → Type 0
  Deals n cache (Ok h) taken items later =
      (items ≡ taken_by_get n cache taken) × (later ≡ cached_after_get n cache taken)
  Deals n cache (Err e) taken items later = (items ≡ []) × (later ≡ cache)

  abbrev pub Fetches : ℕ → View T → ℕ → List T → Result (Hand T S G H) (Hand T S G H × PoolFault) → List T → List T → Type 0
  Fetches size v n cache result items later =
      (taken : List T) × Refills size v (n - length cache) result taken × Deals n cache result taken items later

  -- What a flush returns, with the cache after it. An empty cache makes no request to the ring
  abbrev pub Flushes : View T → List T → Result (Hand T S G H) (Hand T S G H) → List T → Type 0
  Flushes v cache (Ok h) later = (later ≡ []) × (((cache ≡ []) × (view h ≡ v)) ⊎ Spills v cache (Ok h))
  Flushes v cache (Err h) later = (later ≡ cache) × Spills v cache (Err h)

  -- What it returns to put the oldest of a cache on the ring until `size` are left, with what is handed back and the
  -- cache after it. If it is refused, the items after the first `before` are handed back
  abbrev pub Sheds : ℕ → ℕ → View T → List T → Result (CacheHand T S G H) (CacheHand T S G H) → List T → List T → Type 0
  Sheds size before v cache (Ok k) rest later =
      (rest ≡ []) × (later ≡ drop (length cache - size) cache) × (h : Hand T S G H)
      × Spills v (take (length cache - size) cache) (Ok h) × IsCacheHandFor h k
  Sheds size before v cache (Err k) rest later =
      (rest ≡ drop before cache) × (later ≡ take before cache) × (h : Hand T S G H)
      × Spills v (take (length cache - size) cache) (Err h) × IsCacheHandFor h k
