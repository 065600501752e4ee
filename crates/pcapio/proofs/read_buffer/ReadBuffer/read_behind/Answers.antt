use Rattle.pcapio.proofs.Windows.{grown, kept, prepend_known-grown, prepend_known-same}
use Rattle.pcapio.proofs.read_buffer.ReadBuffer.read_behind.Goals as goal

pub returns-in_err-count-clause-all : goal.returns-in_err-count-clause-all
returns-in_err-count-clause-all g c =
    let w = c.args.self.now in
    prepend_known-same _ _ _ _ (kept w.buffer.items c.read_at.new.buffer.items w.start w.end w.ordered c.read_at.ensures.front) c.in_err-count.ensures.none

pub returns-clause-all : goal.returns-clause-all
returns-clause-all g c =
    let w = c.args.self.now in
    let n = c.in_ok-count.count in
    prepend_known-grown _ _ _ _ _ (grown w.buffer.items c.read_at.new.buffer.items w.start w.end n w.ordered c.read_at.ensures.front)
    c.in_ok-count.ensures.bytes
