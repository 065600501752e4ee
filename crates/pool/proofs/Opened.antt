-- Why a cache is not made of a list, by the put that was refused
use Rattle.std.proofs.Common.{◌≡◌, ℕ, ◌+◌, ◌≤◌, List, [], Err, Some, None, ap}
use Rattle.std.specs.Prelude.{Option}
use Rattle.burst.specs.declared.tagged.Tagged.{Ghosts}
use Rattle.fabric.specs.declared.stored.Stored.{Ghosts as StoredGhosts}
use Rattle.fabric_laws.specs.declared.view.View.{View}
use Rattle.fabric.specs.declared.hand.Hand.{Hand}
use Rattle.fabric.specs.declared.hand.cache_hand.CacheHand.{CacheHand}
use Rattle.fabric.specs.Hands.{view}
use Rattle.pool_laws.specs.Caches.{threshold}
use Rattle.pool_laws.specs.Calls.{PutsCached, RefusesCache}
use Rattle.pool_laws.specs.Hands.{IsHandIn, view_in}
use Rattle.pool_laws.specs.declared.faults.PoolFault.{PoolFault}
use Rattle.pool_laws.specs.declared.faults.PoolFault.TheVariants.{Short, Worn, CacheFull, NotYours, BadSize}

pub refuses : (T X : Type 0) (tags : T → List ℕ) (v : View T) (size most : ℕ) (list rest later : List T) (e : PoolFault) → size ≤ 512 → threshold size + 64 ≤ most
    → PutsCached tags v size {X = X} [] list (Err e) rest later → RefusesCache tags v size most list e
refuses T X tags v size most list rest later NotYours small fits told = (small, fits, told.0)
refuses T X tags v size most list rest later CacheFull small fits told = (small, fits, told.0, told.1)
refuses T X tags v size most list rest later Short small fits told = absurd told
refuses T X tags v size most list rest later Worn small fits told = absurd told
refuses T X tags v size most list rest later BadSize small fits told = absurd told

-- the view of a hand in a new cache
pub view_made : {T : Type 0} {S : Type 0} {G : Ghosts T} {H : StoredGhosts S T} (h : Hand T S G H) (o : Option (CacheHand T S G H)) → IsHandIn h o
    → view_in o ≡ view h
view_made h None made = absurd made
view_made h (Some k) made = ap (λ s. s.me.0) made
