use Rattle.std.proofs.Common.{◌-◌, ◌≤◌}
use Rattle.lpm.specs.TwoLevels.{KeepsGroups, OverwritesEntries}
use Rattle.lpm.proofs.levels.Levels.overwrite_entries.Given as goal

abbrev pub invariant-loop-first : goal.invariant-loop-first
invariant-loop-first l =
    (l.from ≤ l.first) × (l.first ≤ l.to) × KeepsGroups l.fn.self l.self × OverwritesEntries l.fn.self l.self l.from l.first l.depth l.entry

abbrev pub decreases-loop-first : goal.decreases-loop-first
decreases-loop-first l = l.to - l.first
