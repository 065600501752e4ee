use Rattle.std.proofs.Common.{◌≡◌, ◌≤◌}
use Rattle.lpm.specs.Match.{longest}
use Rattle.lpm.proofs.members.Members.longest.Given as goal

abbrev pub invariant-loop-tried : goal.invariant-loop-tried
invariant-loop-tried l = (l.tried ≤ l.depth) × (longest l.self l.address l.depth ≡ longest l.self l.address l.tried)

abbrev pub decreases-loop-tried : goal.decreases-loop-tried
decreases-loop-tried l = l.tried
