use Rattle.std.proofs.Common.{◌≡◌, ◌<◌, ℕ, None, get_or}
use Rattle.lpm.specs.TableEntry.{hop_of}
use Rattle.lpm.specs.TwoLevels.{entry_for}
use Rattle.lpm.proofs.levels.Levels.hops_in_whole.Given as goal

abbrev pub invariant-loop-i : goal.invariant-loop-i
invariant-loop-i g l = (k : ℕ) → k < l.i → get_or l.hops k None ≡ hop_of (entry_for l.fn.self (get_or l.addresses k 0))
