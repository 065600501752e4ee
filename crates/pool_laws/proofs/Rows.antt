-- A worked row: buffers 0 to 7 on a ring in order, a cache of size 2 (threshold 3)
use Rattle.std.proofs.Common.{◌≡◌, ℕ, [], ◌∷◌, refl}
use Rattle.pool_laws.specs.Caches.{cached_after_get, cached_after_put, put_on_ring, taken_by_get, threshold}
use Rattle.pool_laws.specs.Faults.{number_of}
use Rattle.pool_laws.specs.declared.faults.PoolFault.TheVariants.{Short, CacheFull, NotYours, Worn, BadSize}

bound : threshold 2 ≡ 3
bound = refl

-- of an odd size it is rounded down
odd : threshold 1 ≡ 1
odd = refl

-- a get of 3 takes 5
gets : taken_by_get {T = ℕ} 3 [] (0 ∷ 1 ∷ 2 ∷ 3 ∷ 4 ∷ []) ≡ 0 ∷ 1 ∷ 2 ∷ []
gets = refl

keeps : cached_after_get {T = ℕ} 3 [] (0 ∷ 1 ∷ 2 ∷ 3 ∷ 4 ∷ []) ≡ 3 ∷ 4 ∷ []
keeps = refl

-- a put of 0 stays in the cache
puts_none : put_on_ring {T = ℕ} 2 (3 ∷ 4 ∷ []) (0 ∷ []) ≡ []
puts_none = refl

pushes : cached_after_put {T = ℕ} 2 (3 ∷ 4 ∷ []) (0 ∷ []) ≡ 3 ∷ 4 ∷ 0 ∷ []
pushes = refl

-- a put of 1 would make it 4: the oldest go to the ring, until 2 are left
puts_oldest : put_on_ring {T = ℕ} 2 (3 ∷ 4 ∷ 0 ∷ []) (1 ∷ []) ≡ 3 ∷ 4 ∷ []
puts_oldest = refl

keeps_newest : cached_after_put {T = ℕ} 2 (3 ∷ 4 ∷ 0 ∷ []) (1 ∷ []) ≡ 0 ∷ 1 ∷ []
keeps_newest = refl

-- a get of 2 from a cache that has them: the newest first
newest_first : taken_by_get {T = ℕ} 2 (3 ∷ 4 ∷ 0 ∷ []) [] ≡ 0 ∷ 4 ∷ []
newest_first = refl

-- a get of 3 where two are cached: these, the newest first, and then the first of those that were taken
mixed : taken_by_get {T = ℕ} 3 (0 ∷ 1 ∷ []) (5 ∷ 6 ∷ 7 ∷ []) ≡ 1 ∷ 0 ∷ 5 ∷ []
mixed = refl

mixed_keeps : cached_after_get {T = ℕ} 3 (0 ∷ 1 ∷ []) (5 ∷ 6 ∷ 7 ∷ []) ≡ 6 ∷ 7 ∷ []
mixed_keeps = refl

-- a list of two is pushed in order, also where some of it goes to the ring
pushes_in_order : cached_after_put {T = ℕ} 2 (3 ∷ []) (0 ∷ 1 ∷ []) ≡ 3 ∷ 0 ∷ 1 ∷ []
pushes_in_order = refl

puts_in_order : put_on_ring {T = ℕ} 2 (3 ∷ []) (0 ∷ 1 ∷ 5 ∷ 6 ∷ []) ≡ 3 ∷ 0 ∷ 1 ∷ []
puts_in_order = refl

numbers : number_of Short ∷ number_of CacheFull ∷ number_of NotYours ∷ number_of Worn ∷ number_of BadSize ∷ [] ≡ 1 ∷ 2 ∷ 3 ∷ 4 ∷ 5 ∷ []
numbers = refl
