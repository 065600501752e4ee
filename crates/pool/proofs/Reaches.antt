-- A cache may have the buffers of its pool
use Rattle.std.proofs.Common.{◌≡◌, ℕ, ◌≤◌, Some, None, sym, ◌∙◌, arith, true}
use Rattle.std.specs.Prelude.{Option, nat_le}
use Rattle.std.proofs.lemmas.Bool.Decides.{nat_tests}
use Rattle.burst.specs.declared.tagged.Tagged.{Ghosts}
use Rattle.fabric.specs.declared.fabric.Fabric.{Fabric}
use Rattle.fabric.specs.declared.hand.cache_hand.CacheHand.{CacheHand}
use Rattle.fabric.specs.declared.stored.Stored.{Ghosts as StoredGhosts}
use Rattle.fabric.specs.CacheHands.{IsCacheHandOf, view_of_cache_hand}
use Rattle.fabric.specs.Hands.{pool_of}
use Rattle.pool_laws.specs.Hands.{IsIn, view_in}

pub le_of : (p m : ℕ) → nat_le p m ≡ true → p ≤ m
le_of p m le = grind (arith, nat_tests, le)

module _ {T : Type 0} {S : Type 0} {G : Ghosts T} {H : StoredGhosts S T} {N : ℕ} (f : Fabric T N S) where
  -- all hands of a fabric have its pool
  pub pool_in : (o : Option (CacheHand T S G H)) → IsIn f o → (view_in o).pool ≡ pool_of f
  pool_in None mine = absurd mine
  pool_in (Some k) mine = mine.2

  pub reach_kept : (o : Option (CacheHand T S G H)) (k : CacheHand T S G H) (before later : ℕ) → IsCacheHandOf f k → IsIn f o → later ≡ before
      → nat_le (view_in o).pool before ≡ true → nat_le (view_of_cache_hand k).pool later ≡ true
  reach_kept o k before later mine was same le =
      let pool : (view_of_cache_hand k).pool ≡ (view_in o).pool = mine.2 ∙ sym (pool_in o was) in (λ i. nat_le (pool i) (same i)) ∙ le
