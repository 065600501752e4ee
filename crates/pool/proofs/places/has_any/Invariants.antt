use Rattle.std.proofs.Common.{◌≡◌, ◌<◌, ℕ, take}
use Rattle.ringcore_laws.specs.Sound.{occurrences_in}
use Rattle.pool.proofs.places.has_any.Given as goal

abbrev pub invariant-loop-i : goal.invariant-loop-i
invariant-loop-i g l = (b : ℕ) → 0 < occurrences_in g.T.Tagged.numbers b (take l.i l.items) → occurrences_in g.T.Tagged.numbers b l.words ≡ 0
