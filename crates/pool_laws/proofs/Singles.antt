-- Items that carry one buffer each, in what a get gives and keeps
use Rattle.std.proofs.Common.{ℕ, ◌++◌, List, arith}
use Rattle.std.proofs.lemmas.List.Sums.{sum_by-append}
use Rattle.ringcore_laws.specs.FreeRings.{AreSingle}
use Rattle.ringapi.proofs.Singles.{from_none, none_odd, odd}
use Rattle.pool_laws.specs.Caches.{cached_after_get, taken_by_get}
use Rattle.pool_laws.proofs.Counts.{sum_get}

module _ {T : Type 0} (tags : T → List ℕ) where
  pub single_get : (n : ℕ) (cache taken : List T) → AreSingle tags cache → AreSingle tags taken
      → AreSingle tags (taken_by_get n cache taken ++ cached_after_get n cache taken)
  single_get n cache taken one two =
      from_none tags (taken_by_get n cache taken ++ cached_after_get n cache taken)
      (omega (
        arith,
        sum_by-append (odd tags) (taken_by_get n cache taken) (cached_after_get n cache taken),
        sum_get (odd tags) n cache taken,
        none_odd tags cache one,
        none_odd tags taken two,
      ))
