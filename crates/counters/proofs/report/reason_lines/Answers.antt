use Rattle.counters.proofs.Texts.{seven}
use Rattle.counters.proofs.report.reason_lines.Goals as goal

pub returns : goal.returns
returns c =
    seven _ _ _ _ _ _ _ _ _ _ _ _ _ _ _ c.in_ok-line.ensures c.in_ok-line-2.ensures c.in_ok-line-3.ensures c.in_ok-line-4.ensures c.in_ok-line-5.ensures
    c.in_ok-line-6.ensures c.in_ok-line-7.ensures
