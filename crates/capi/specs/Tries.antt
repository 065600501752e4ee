-- What puts and takes of numbers do that are tried a limited number of times
use Rattle.std.specs.Prelude.{◌≡◌, ◌≤◌, ◌++◌, ℕ, List, drop, length, Option, Result, Ok}
use Rattle.geom.specs.declared.plan.How.{How}
use Rattle.burst.specs.declared.tagged.Tagged.{Ghosts}
use Rattle.fabric.specs.declared.stored.Stored.{Ghosts as StoredGhosts}
use Rattle.fabric.specs.declared.hand.StartFault.{StartFault}
use Rattle.fabric.specs.declared.hand.cache_hand.CacheHand.{CacheHand}
use Rattle.fabric.specs.Hands.{OnRing}
use Rattle.fabric.specs.Settles.{AreOwnBuffers}
use Rattle.fabric.specs.Views.{IsKept}
use Rattle.ringapi.specs.declared.answers.Moved.{Moved}
use Rattle.ringapi.specs.declared.answers.Refusal.{Refusal}
use Rattle.ringapi.specs.declared.answers.Refusal.TheVariants.{Start, NotYours}
use Rattle.ringapi.specs.Views.{by_bulk}
use Rattle.pool.specs.declared.local.Local.{Local}
use Rattle.pool.specs.declared.store.Store.{Ghosts as StoreGhosts}
use Rattle.pool_laws.specs.Beside.{Receives, Sends, unsent_of}
use Rattle.pool_laws.specs.Hands.{view_in}
use Rattle.pool.specs.Locals.{SameCache, SameRing, cache_of, hand_of, view_of}
use Rattle.capi.specs.PoolMembers.{NumberRings, numbers_of}
use Rattle.capi.specs.Spans.{start_fault}
use Rattle.capi.specs.declared.rings.fault.Fault.{Fault}
use Rattle.capi.specs.declared.rings.fault.Fault.TheVariants as fault
use Rattle.capi.specs.declared.pools.member.Number.{Number}

-- the fault for a refused put
abbrev pub refusal_fault : Refusal → Fault
refusal_fault (Start why) = start_fault why
refusal_fault NotYours = fault.NotYours

-- a request for n numbers moved this many: at most n, and by bulk all
abbrev pub IsPartOf : How → ℕ → ℕ → Type 0
IsPartOf how n count = (count ≤ n) × (how ≡ by_bulk → count ≡ n)

module _ {G : Ghosts Number} {H : StoredGhosts (Option Number) Number} where
  -- the handle has the numbers and the cache that it had
  pub record IsSame {C : Type 0} {K : StoreGhosts C Number} (l m : Local Number 4096 (Option Number) C G H K) : Type 0 where
    pub ring : SameRing l m
    pub cache : SameCache l m
    pub kept : IsKept (view_of l) (view_of m)

  -- The last of some tries put the first of these numbers on a ring, or was refused, and the tries before it changed
  -- nothing. They are not in the cache
  pub record Sent {C : Type 0} {K : StoreGhosts C Number} (f : NumberRings) (how : How) (ring : ℕ)
      (cache items : List Number) (l m : Local Number 4096 (Option Number) C G H K) (answer : Result Moved Refusal) : Type 0 where
    pub seen : Option (CacheHand Number (Option Number) G H)
    pub kept : IsKept (view_of l) (view_in seen)
    pub reply : OnRing f ring (λ plan. Sends numbers_of how 4096 ring plan seen (hand_of m) cache items answer
        (unsent_of answer items))

  -- The last of some tries took n numbers from a ring, these, or was refused, and the tries before it changed nothing
  pub record Received {C : Type 0} {K : StoreGhosts C Number} (f : NumberRings) (how : How) (ring n : ℕ)
      (l m : Local Number 4096 (Option Number) C G H K) (answer : Result Moved StartFault) (shown : List Number) : Type 0 where
    pub seen : Option (CacheHand Number (Option Number) G H)
    pub kept : IsKept (view_of l) (view_in seen)
    pub reply : OnRing f ring (λ plan. Receives numbers_of how 4096 ring plan seen (hand_of m) n answer shown)

  -- numbers of a ring are at the front of an array, and are the handle's own
  pub record Filled {C : Type 0} {K : StoreGhosts C Number} (f : NumberRings) (how : How) (ring : ℕ)
      (before after : List Number) (l m : Local Number 4096 (Option Number) C G H K) (moved : Moved) : Type 0 where
    pub shown : List Number
    pub front : after ≡ shown ++ drop (length shown) before
    pub count : moved.count ≡ length shown
    pub part : IsPartOf how (length before) moved.count
    pub reply : Received f how ring (length before) l m (Ok moved) shown
    pub own : AreOwnBuffers numbers_of (view_of m) (shown ++ cache_of m)
