use Rattle.std.proofs.Common.{◌≡◌, take}
use Rattle.std.specs.Io.KnownBytes.{Consumes}
use Rattle.mbuf.specs.Chain.{bytes_of, shape_of}
use Rattle.pcapio.specs.ReadBuffer.{unread}
use Rattle.pcapio.specs.Counted.{HasNotFailed}
use Rattle.pcapio.proofs.stream.fill_chain.Given as goal

abbrev pub invariant-loop-i : goal.invariant-loop-i
invariant-loop-i g l = record {
  taken : Consumes (unread g.R.Read.remaining l.fn.ahead l.fn.device) (unread g.R.Read.remaining l.ahead l.device) (bytes_of (take l.i l.chain));
  shape : shape_of l.chain ≡ shape_of l.fn.chain;
  well : HasNotFailed l.fn.device l.device;
}
