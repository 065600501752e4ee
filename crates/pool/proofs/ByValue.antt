-- What calls by value answer is what the calls that are lent a list answer
use Rattle.std.proofs.Common.{◌≡◌, ℕ, List, [], inl, inr, subst, Ok, Err, true, false}
use Rattle.std.specs.Prelude.{Result}
use Rattle.geom.specs.declared.plan.RingPlan.{RingPlan}
use Rattle.burst.specs.declared.tagged.Tagged.{Ghosts}
use Rattle.fabric.specs.declared.stored.Stored.{Ghosts as StoredGhosts}
use Rattle.fabric.specs.declared.hand.Hand.{Hand}
use Rattle.pool_laws.specs.Requests.{Fetches}
use Rattle.pool_laws.specs.Calls.{SameAnswer}
use Rattle.pool.specs.Calls.{GetTells}
use Rattle.pool.specs.Locals.{cache_of, cache_size, hand_of, ring_of, view_of}
use Rattle.pool.specs.declared.local.Local.{Local}
use Rattle.pool.specs.declared.store.Store.{Ghosts as StoreGhosts}
use Rattle.pool_laws.specs.declared.faults.PoolFault.{PoolFault}

module _ {T : Type 0} {S : Type 0} {C : Type 0} {G : Ghosts T} {H : StoredGhosts S T} {N : ℕ} {K : StoreGhosts C T} (tags : T → List ℕ)
    (plan : RingPlan) (l m : Local T N S C G H K) where
  same_ok : {X Y : Type 0} (x : X) (y : Y) (answer : Result (Hand T S G H) (Hand T S G H × PoolFault)) → SameAnswer (hand_of m) answer (Ok x)
      → SameAnswer (hand_of m) answer (Ok y)
  same_ok x y (Ok h) same = same
  same_ok x y (Err h) same = same

  same_err : (X Y : Type 0) (e : PoolFault) (answer : Result (Hand T S G H) (Hand T S G H × PoolFault)) → SameAnswer (hand_of m) {X = X} answer (Err e)
      → SameAnswer (hand_of m) {X = Y} answer (Err e)
  same_err X Y e (Ok h) same = same
  same_err X Y e (Err h) same = same

  pub gets : {X Y : Type 0} (x : X) (y : Y) (n : ℕ) (items : List T) → GetTells tags plan l m n (Ok x) items → GetTells tags plan l m n (Ok y) items
  gets x y n items told = elim told [
    | inl hit ↦ inl hit
    | inr miss ↦ inr (miss.0, miss.1, miss.2, same_ok x y miss.1 miss.3)
  ]

  none_given : (X : Type 0) (e : PoolFault) (n : ℕ) (items : List T) (answer : Result (Hand T S G H) (Hand T S G H × PoolFault))
      → Fetches tags N (ring_of l) plan (cache_size l) (view_of l) n (cache_of l) answer items (cache_of m) → SameAnswer (hand_of m) {X = X} answer (Err e)
      → items ≡ []
  none_given X e n items (Ok h) fetches same = absurd same
  none_given X e n items (Err h) fetches same = fetches.2.0

  pub gets_none : (X Y : Type 0) (e : PoolFault) (n : ℕ) (items : List T) → GetTells tags plan l m {X = X} n (Err e) items
      → GetTells tags plan l m {X = Y} n (Err e) []
  gets_none X Y e n items told = elim told [
    | inl hit ↦ absurd (let z : false ≡ true = hit.1 in cc)
    | inr miss ↦
        let none = none_given X e n items miss.1 miss.2 miss.3 in
        inr (
          miss.0,
          miss.1,
          subst (λ x. Fetches tags N (ring_of l) plan (cache_size l) (view_of l) n (cache_of l) miss.1 x (cache_of m)) none miss.2,
          same_err X Y e miss.1 miss.3,
        )
  ]
