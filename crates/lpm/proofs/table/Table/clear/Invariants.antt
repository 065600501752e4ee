use Rattle.std.proofs.Common.{◌≡◌}
use Rattle.std.specs.FinMap as map
use Rattle.lpm.proofs.table.Table.clear.Given as goal

abbrev pub invariant-loop-route : goal.invariant-loop-route
invariant-loop-route l = (l.self.bits ≡ l.initial.self.bits) × (l.self.limit ≡ l.initial.self.limit)

abbrev pub decreases-loop-route : goal.decreases-loop-route
decreases-loop-route l = map.len l.self.members
