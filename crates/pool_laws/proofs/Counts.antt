-- How often a buffer stands in what a get gives and keeps, and in what a put moves and keeps
use Rattle.std.proofs.Common.{◌≡◌, ℕ, ◌+◌, ◌-◌, List, length, take, drop, reverse, arith}
use Rattle.std.specs.Prelude.{◌<◌, ◌≤◌, nat_lt, if◌then◌else◌}
use Rattle.std.specs.List.{sum_by}
use Rattle.std.proofs.lemmas.Bool.Decides.{nat_tests}
use Rattle.std.proofs.lemmas.List.Sums.{sum_by-append}
use Rattle.ringcore_laws.specs.Sound.{occurrences, occurrences_in}
use Rattle.ringapi.proofs.Counts.{sum_parts, sum_turned}
use Rattle.pool_laws.specs.Caches.{cached_after_get, taken_by_get}

-- a sum over the items
module _ {T : Type 0} (f : T → ℕ) where
  -- a get loses nothing and makes nothing up
  pub sum_get : (n : ℕ) (cache taken : List T)
      → sum_by f (taken_by_get n cache taken) + sum_by f (cached_after_get n cache taken) ≡ sum_by f cache + sum_by f taken
  sum_get n cache taken =
      omega (
        arith,
        sum_by-append f (reverse (drop (length cache - n) cache)) (take (n - length cache) taken),
        sum_by-append f (take (length cache - n) cache) (drop (n - length cache) taken),
        sum_turned f (drop (length cache - n) cache),
        sum_parts f (length cache - n) cache,
        sum_parts f (n - length cache) taken,
      )

-- how often a buffer stands in them
module _ {T : Type 0} (tags : T → List ℕ) (b : ℕ) where
  pub count_get : (n : ℕ) (cache taken : List T)
      → occurrences_in tags b (taken_by_get n cache taken) + occurrences_in tags b (cached_after_get n cache taken)
      ≡ occurrences_in tags b cache + occurrences_in tags b taken
  count_get n cache taken = sum_get (λ x. occurrences b (tags x)) n cache taken

-- a put moves nothing to the ring up to the threshold, and else all but so many
pub spilled_none : (size most long : ℕ) → long ≤ most → (if nat_lt most long then long - size else 0) ≡ 0
spilled_none size most long few = grind (arith, nat_tests, few)

pub spilled_some : (size most long : ℕ) → most < long → (if nat_lt most long then long - size else 0) ≡ long - size
spilled_some size most long many = grind (arith, nat_tests, many)
