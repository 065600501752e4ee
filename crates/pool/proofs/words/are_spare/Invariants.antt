use Rattle.std.proofs.Common.{◌≡◌, ◌<◌, ℕ, take}
use Rattle.ringcore_laws.specs.FreeRings.{AreSingle}
use Rattle.ringcore_laws.specs.Sound.{occurrences_in}
use Rattle.fabric.specs.CacheHands.{spare}
use Rattle.pool.proofs.words.are_spare.Given as goal

abbrev pub invariant-loop-i : goal.invariant-loop-i
invariant-loop-i g l = record {
  single : AreSingle g.T.Tagged.numbers (take l.i l.items);
  spare : (b : ℕ) → 0 < occurrences_in g.T.Tagged.numbers b (take l.i l.items) → spare l.cache_hand b ≡ 1;
}
