-- What the calls on a pool of numbers do to a cache
use Rattle.std.specs.Prelude.{◌≡◌, ℕ, ◌+◌, ◌-◌, ◌<◌, ◌≤◌, ◌++◌, ◌⊎◌, List, [], drop, length, Option, Ok, Err}
use Rattle.geom.specs.declared.plan.How.{How}
use Rattle.ringcore_laws.specs.Sound.{holds}
use Rattle.burst.specs.declared.tagged.Tagged.{Ghosts}
use Rattle.fabric_laws.specs.declared.view.View.{View}
use Rattle.fabric.specs.declared.stored.Stored.{Ghosts as StoredGhosts}
use Rattle.fabric.specs.declared.hand.StartFault.{StartFault}
use Rattle.fabric.specs.declared.hand.StartFault.TheVariants.{Busy, Contended, NoRoom, Worn, BadCount}
use Rattle.fabric.specs.Settles.{AreNotOwnBuffers, AreOwnBuffers}
use Rattle.ringapi.specs.declared.answers.Moved.{Moved}
use Rattle.ringapi.specs.declared.answers.Refusal.{Refusal}
use Rattle.ringapi.specs.Views.{by_bulk}
use Rattle.pool.specs.declared.local.Local.{Local}
use Rattle.pool.specs.declared.store.Store.{Ghosts as StoreGhosts}
use Rattle.pool_laws.specs.Caches.{cached_after_get, taken_by_get, threshold}
use Rattle.pool.specs.Locals.{SameCache, SameRing, cache_of, cache_size, view_of}
use Rattle.capi.specs.Codes.{Outcome}
use Rattle.capi.specs.PoolMembers.{NumberRings, numbers_of}
use Rattle.capi.specs.Tries.{IsPartOf, IsSame, Received, Sent, refusal_fault}
use Rattle.capi.specs.Spans.{start_fault}
use Rattle.capi.specs.declared.rings.fault.Fault.{Fault}
use Rattle.capi.specs.declared.rings.fault.Fault.TheVariants as fault
use Rattle.capi.specs.declared.pools.member.TheConstants.{MAX_NUMBERS}
use Rattle.capi.specs.declared.pools.member.Number.{Number}

-- a count that no call takes
abbrev pub IsBadCount : ℕ → Fault → Type 0
IsBadCount n why = (why ≡ fault.Count) × ((n ≡ 0) ⊎ (MAX_NUMBERS < n))

-- a count that a call takes
abbrev pub IsGoodCount : ℕ → Type 0
IsGoodCount n = (0 < n) × (n ≤ MAX_NUMBERS)

module _ {G : Ghosts Number} {H : StoredGhosts (Option Number) Number} {C : Type 0} {K : StoreGhosts C Number}
    (l : Local Number 4096 (Option Number) C G H K) where
  -- what a get of n numbers asks of the free ring: those that the cache lacks and one cache more, or these alone
  abbrev pub IsAskedFor : ℕ → ℕ → Type 0
  IsAskedFor n asked = (asked ≡ n - length (cache_of l) + cache_size l) ⊎ (asked ≡ n - length (cache_of l))

  -- what a get that is refused asked for last: if the free ring has too few, the numbers that the cache lacks alone
  abbrev pub IsLastAsked : ℕ → ℕ → StartFault → Type 0
  IsLastAsked n asked (NoRoom left) = asked ≡ n - length (cache_of l)
  IsLastAsked n asked (Busy word) = IsAskedFor n asked
  IsLastAsked n asked (Contended word) = IsAskedFor n asked
  IsLastAsked n asked Worn = IsAskedFor n asked
  IsLastAsked n asked BadCount = IsAskedFor n asked

  -- the numbers are the handle's own, none twice and none cached
  abbrev pub MayPut : List Number → Type 0
  MayPut items = AreOwnBuffers numbers_of (view_of l) (cache_of l ++ items)

  -- the numbers fit into the cache, or they don't
  abbrev pub FitsCache : List Number → Type 0
  FitsCache items = length (cache_of l ++ items) ≤ threshold (cache_size l)

  abbrev pub PassesCache : List Number → Type 0
  PassesCache items = threshold (cache_size l) < length (cache_of l ++ items)

module _ {G : Ghosts Number} {H : StoredGhosts (Option Number) Number} {C : Type 0} {K : StoreGhosts C Number} (f : NumberRings)
    (l m : Local Number 4096 (Option Number) C G H K) where
  -- where the numbers of a get come from: the cache has n, or it has too few, and the free ring gave these
  abbrev pub Draws : ℕ → List Number → Type 0
  Draws n taken = ((n ≤ length (cache_of l)) × (taken ≡ []) × (view_of m ≡ view_of l))
      ⊎ ((length (cache_of l) < n) × (asked : ℕ) × IsAskedFor l n asked × (moved : Moved)
      × Received f by_bulk 0 asked l m (Ok moved) taken)

  -- n numbers were got: those of the cache, the newest first, and then the first that the free ring gave; the rest of
  -- those is cached. All that was got, and what is cached, is the handle's own, each number once
  pub record HasGot (n : ℕ) (got : List Number) : Type 0 where
    pub taken : List Number
    pub given : got ≡ taken_by_get n (cache_of l) taken
    pub cached : cache_of m ≡ cached_after_get n (cache_of l) taken
    pub from : Draws n taken
    pub own : AreOwnBuffers numbers_of (view_of m) (got ++ cache_of m)
    pub ring : SameRing l m

  -- n numbers were got with those that the free ring gave, as many as were asked for
  pub record HasDrawn (n asked : ℕ) (got : List Number) : Type 0 where
    pub taken : List Number
    pub moved : Moved
    pub reply : Received f by_bulk 0 asked l m (Ok moved) taken
    pub given : got ≡ taken_by_get n (cache_of l) taken
    pub cached : cache_of m ≡ cached_after_get n (cache_of l) taken
    pub own : AreOwnBuffers numbers_of (view_of m) (got ++ cache_of m)
    pub ring : SameRing l m

  -- why nothing was got: the count, or what the free ring answered at last
  abbrev pub RefusesGet : ℕ → Fault → Type 0
  RefusesGet n why = IsBadCount n why
      ⊎ ((length (cache_of l) < n) × (asked : ℕ) × (reason : StartFault) × IsLastAsked l n asked reason
      × (why ≡ start_fault reason) × Received f by_bulk 0 asked l m (Err reason) [])

  -- a get: it fills the array, or nothing is changed
  abbrev pub Gets : List Number → List Number → Outcome → Type 0
  Gets before after (Ok count) = (count ≡ length before) × IsGoodCount count × HasGot count after
  Gets before after (Err why) = (after ≡ before) × IsSame l m × RefusesGet (length before) why

  -- the numbers are cached, as the newest
  pub record HasCached (items : List Number) : Type 0 where
    pub fits : FitsCache l items
    pub cached : cache_of m ≡ cache_of l ++ items
    pub view : view_of m ≡ view_of l
    pub ring : SameRing l m

  -- the numbers are on the free ring, since the cache has too little room for them
  pub record HasReturned (items : List Number) : Type 0 where
    pub passes : PassesCache l items
    pub cache : SameCache l m
    pub ring : SameRing l m
    pub moved : Moved
    pub sent : Sent f by_bulk 0 (cache_of l) items l m (Ok moved)

  -- why nothing was put: the count, numbers that aren't the handle's, or what the free ring answered
  abbrev pub RefusesPut : List Number → Fault → Type 0
  RefusesPut items why = IsBadCount (length items) why
      ⊎ (((why ≡ fault.NotYours) × AreNotOwnBuffers numbers_of (view_of l) (cache_of l ++ items))
      ⊎ (MayPut l items × PassesCache l items × (reason : Refusal) × (why ≡ refusal_fault reason)
      × Sent f by_bulk 0 (cache_of l) items l m (Err reason)))

  -- a put: the numbers are cached, or on the free ring, or nothing is changed
  abbrev pub Puts : List Number → Outcome → Type 0
  Puts items (Ok count) = (count ≡ length items) × IsGoodCount count × MayPut l items × (HasCached items ⊎ HasReturned items)
  Puts items (Err why) = IsSame l m × RefusesPut items why

  -- all that was cached is on the free ring, the oldest first, or the cache is as it was
  abbrev pub Flushes : Outcome → Type 0
  Flushes (Ok count) = (count ≡ length (cache_of l)) × (cache_of m ≡ []) × SameRing l m
      × (((cache_of l ≡ []) × (view_of m ≡ view_of l)) ⊎ ((moved : Moved) × Sent f by_bulk 0 [] (cache_of l) l m (Ok moved)))
  Flushes (Err why) = IsSame l m
      × (reason : Refusal) × (why ≡ refusal_fault reason) × Sent f by_bulk 0 [] (cache_of l) l m (Err reason)

module _ {G : Ghosts Number} {H : StoredGhosts (Option Number) Number} {C : Type 0} {K : StoreGhosts C Number} (f : NumberRings)
    (how : How) (ring : ℕ) (l m : Local Number 4096 (Option Number) C G H K) where
  -- the first of some numbers are on a ring: by bulk all of them
  pub record HasSent (items : List Number) (count : ℕ) : Type 0 where
    pub good : IsGoodCount (length items)
    pub part : IsPartOf how (length items) count
    pub same : SameRing l m × SameCache l m
    pub moved : Moved
    pub moves : count ≡ moved.count
    pub sent : Sent f how ring (cache_of l) items l m (Ok moved)

  -- numbers of a ring are at the front of an array, by bulk in all its places, and are the handle's own
  pub record HasReceived (before after : List Number) (count : ℕ) : Type 0 where
    pub good : IsGoodCount (length before)
    pub part : IsPartOf how (length before) count
    pub same : SameRing l m × SameCache l m
    pub shown : List Number
    pub front : after ≡ shown ++ drop (length shown) before
    pub shows : count ≡ length shown
    pub own : AreOwnBuffers numbers_of (view_of m) (shown ++ cache_of m)
    pub moved : Moved
    pub reply : Received f how ring (length before) l m (Ok moved) shown

  -- numbers go to a ring, or nothing is changed
  abbrev pub SendsTo : List Number → Outcome → Type 0
  SendsTo items (Ok count) = HasSent items count
  SendsTo items (Err why) = IsSame l m × (IsBadCount (length items) why
      ⊎ ((reason : Refusal) × (why ≡ refusal_fault reason) × Sent f how ring (cache_of l) items l m (Err reason)))

  -- numbers come from a ring, or nothing is changed
  abbrev pub ReceivesFrom : List Number → List Number → Outcome → Type 0
  ReceivesFrom before after (Ok count) = HasReceived before after count
  ReceivesFrom before after (Err why) = (after ≡ before) × IsSame l m × (IsBadCount (length before) why
      ⊎ ((reason : StartFault) × (why ≡ start_fault reason) × Received f how ring (length before) l m (Err reason) []))

-- 1 if the handle has a number, cached or not, and 0 if it hasn't
abbrev pub TellsOwner : View Number → ℕ → Outcome → Type 0
TellsOwner v number outcome = outcome ≡ Ok (holds numbers_of number v.party)
