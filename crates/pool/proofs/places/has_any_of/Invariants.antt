use Rattle.std.proofs.Common.{◌≡◌, ◌<◌, ℕ, take}
use Rattle.ringcore_laws.specs.Sound.{occurrences, occurrences_in}
use Rattle.pool.proofs.places.has_any_of.Given as goal

abbrev pub invariant-loop-i : goal.invariant-loop-i
invariant-loop-i g l = (b : ℕ) → 0 < occurrences b (take l.i l.numbers) → occurrences_in g.T.Tagged.numbers b l.words ≡ 0
