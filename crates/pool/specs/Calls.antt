-- What the calls of a cache return
use Rattle.std.specs.Prelude.{ℕ, List, [], Result, Ok, Err}
use Rattle.geom.specs.declared.plan.RingPlan.{RingPlan}
use Rattle.burst.specs.declared.tagged.Tagged.{Ghosts}
use Rattle.fabric.specs.declared.stored.Stored.{Ghosts as StoredGhosts}
use Rattle.pool_laws.specs.Calls.{AnswersFlush, AnswersGet, AnswersPut}
use Rattle.pool_laws.specs.declared.faults.PoolFault.{PoolFault}
use Rattle.pool.specs.Locals.{cache_of, cache_size, hand_of, ring_of}
use Rattle.pool.specs.declared.store.Store.{Ghosts as StoreGhosts}
use Rattle.pool.specs.declared.local.Local.{Local}

module _ {T : Type 0} where
  -- what a call by value returns, and why it returns nothing; the list that it hands back
  abbrev pub given : Result (List T) PoolFault → List T
  given (Ok items) = items
  given (Err e) = []

  abbrev pub handed_back : {X : Type 0} → Result X (List T × PoolFault) → List T
  handed_back (Ok x) = []
  handed_back (Err e) = e.0

  abbrev pub answer_of : {X : Type 0} → Result X (List T × PoolFault) → Result X PoolFault
  answer_of (Ok x) = Ok x
  answer_of (Err e) = Err e.1

module _ {T : Type 0} {S : Type 0} {C : Type 0} {G : Ghosts T} {H : StoredGhosts S T} {N : ℕ} {K : StoreGhosts C T}
    (tags : T → List ℕ) (plan : RingPlan) (l m : Local T N S C G H K) where
  -- what the calls of a cache of any kind return: a get, a put with what is left of its list, a flush
  abbrev pub GetTells : {X : Type 0} → ℕ → Result X PoolFault → List T → Type 0
  GetTells n result items =
      AnswersGet tags N (ring_of l) (cache_size l) plan (hand_of l) (hand_of m) n (cache_of l) result items (cache_of m)

  abbrev pub PutBackTells : {X : Type 0} → List T → Result X PoolFault → List T → Type 0
  PutBackTells list result rest =
      AnswersPut tags N (ring_of l) (cache_size l) plan (hand_of l) (hand_of m) (cache_of l) list result rest
      (cache_of m)

  abbrev pub FlushTells : {X : Type 0} → Result X PoolFault → Type 0
  FlushTells result =
      AnswersFlush tags N (ring_of l) (cache_size l) plan (hand_of l) (hand_of m) (cache_of l) result (cache_of m)
