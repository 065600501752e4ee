-- Why no cache of words is made
use Rattle.std.specs.Prelude.{◌+◌, ◌<◌, ◌≤◌, ◌⊎◌, ℕ, List}
use Rattle.fabric_laws.specs.declared.view.View.{View}
use Rattle.pool_laws.specs.Caches.{threshold}
use Rattle.pool_laws.specs.Calls.{RefusesCache}
use Rattle.pool_laws.specs.declared.faults.PoolFault.TheVariants.{Short, Worn, CacheFull, NotYours, BadSize}
use Rattle.pool.specs.declared.word_opening.CacheFault.{CacheFault}
use Rattle.pool.specs.declared.word_opening.CacheFault.TheVariants.{Memory, Pool}

-- Why no empty cache of this size is made, in bursts of `most` items. Memory is requested for a valid size only
abbrev pub RefusesSize : ℕ → ℕ → CacheFault → Type 0
RefusesSize size most Memory = (size ≤ 512) × (threshold size + 64 ≤ most)
RefusesSize size most (Pool BadSize) = (512 < size) ⊎ (most < threshold size + 64)
RefusesSize size most (Pool Short) = ⊥
RefusesSize size most (Pool CacheFull) = ⊥
RefusesSize size most (Pool NotYours) = ⊥
RefusesSize size most (Pool Worn) = ⊥

-- why these words can't be a cache of this size: in the order of the tests
abbrev pub RefusesWords : {T : Type 0} → (T → List ℕ) → View T → ℕ → ℕ → List T → CacheFault → Type 0
RefusesWords tags v size most items Memory = (size ≤ 512) × (threshold size + 64 ≤ most)
RefusesWords tags v size most items (Pool e) = RefusesCache tags v size most items e
