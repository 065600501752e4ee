-- What get, put and flush return and keep, as functions of lists (DPDK Programmer's Guide, "Mempool Library", with this
-- project's own order). A cache is a stack: its oldest item is first, its newest last
use Rattle.std.specs.Prelude.{ℕ, ◌-◌, ◌*◌, ◌/◌, nat_lt, if◌then◌else◌, List, ◌++◌, length, take, drop, reverse}

-- the maximum length of a cache of this size
abbrev pub threshold : ℕ → ℕ
threshold size = 3 * size / 2

module _ {T : Type 0} where
  -- What a get of n items returns: the newest of the cache, the newest first, and if it has too few, the first of those
  -- that were taken from the ring
  abbrev pub taken_by_get : ℕ → List T → List T → List T
  taken_by_get n cache taken = reverse (drop (length cache - n) cache) ++ take (n - length cache) taken

  -- the cache after it: what is left of it, or if it had too few, the others that were taken, in the ring's order
  abbrev pub cached_after_get : ℕ → List T → List T → List T
  cached_after_get n cache taken = take (length cache - n) cache ++ drop (n - length cache) taken

  -- how many items of cache and list together a put moves to the ring: none up to the threshold, otherwise all but
  -- `size`
  abbrev pub spilled : ℕ → List T → ℕ
  spilled size all = if nat_lt (threshold size) (length all) then length all - size else 0

  -- the items that a put moves to the ring: the oldest of cache and list together
  abbrev pub put_on_ring : ℕ → List T → List T → List T
  put_on_ring size cache list = take (spilled size (cache ++ list)) (cache ++ list)

  -- the cache after it: the list is pushed in order, and the oldest are gone
  abbrev pub cached_after_put : ℕ → List T → List T → List T
  cached_after_put size cache list = drop (spilled size (cache ++ list)) (cache ++ list)
