use Rattle.std.proofs.Common.{◌≡◌, ◌++◌, drop}
use Rattle.counters.specs.Report.{port_lines}
use Rattle.counters.proofs.report.port_lines.Given as goal

abbrev pub invariant-loop-port : goal.invariant-loop-port
invariant-loop-port l = l.text.items ++ port_lines l.port (drop l.port l.counts) ≡ l.initial.text.items ++ port_lines 0 l.counts
