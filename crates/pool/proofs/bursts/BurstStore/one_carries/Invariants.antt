use Rattle.std.proofs.Common.{◌≡◌, take}
use Rattle.ringcore_laws.specs.Sound.{occurrences_in}
use Rattle.pool.proofs.bursts.BurstStore.one_carries.Given as goal

abbrev pub invariant-loop-i : goal.invariant-loop-i
invariant-loop-i g l = occurrences_in g.T.Tagged.numbers l.b (take l.i l.self) ≡ 0
