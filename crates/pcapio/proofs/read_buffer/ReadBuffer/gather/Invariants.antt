use Rattle.std.proofs.Common.{◌≡◌, ◌-◌, length}
use Rattle.std.specs.Io.KnownBytes.{Keeps}
use Rattle.pcapio.specs.ReadBuffer.{unread, items}
use Rattle.pcapio.specs.Counted.{HasNotFailed}
use Rattle.pcapio.proofs.read_buffer.ReadBuffer.gather.Given as goal

abbrev pub invariant-loop-self : goal.invariant-loop-self
invariant-loop-self g l = record {
  rest : Keeps (unread g.R.Read.remaining l.fn.self l.fn.device) (unread g.R.Read.remaining l.self l.device);
  start : l.self.start ≡ 0;
  well : HasNotFailed l.fn.device l.device;
}

abbrev pub decreases-loop-self : goal.decreases-loop-self
decreases-loop-self g l = l.count - length (items l.self)
