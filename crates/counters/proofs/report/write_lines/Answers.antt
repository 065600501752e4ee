use Rattle.counters.specs.Report.{report_lines}
use Rattle.counters.proofs.Texts.{six}
use Rattle.counters.proofs.report.write_lines.Goals as goal

pub returns : goal.returns
unfolding report_lines
returns c =
    six _ _ _ _ _ _ _ _ _ _ _ _ _ c.in_ok-line.ensures c.in_ok-line-2.ensures c.in_ok-port_lines.ensures c.in_ok-reason_lines.ensures
    c.in_ok-line-3.ensures c.in_ok-torn_line.ensures
