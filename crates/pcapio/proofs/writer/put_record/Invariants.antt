use Rattle.std.proofs.Common.{take, ◌++◌}
use Rattle.std.specs.Io.KnownBytes.{Appends}
use Rattle.mbuf.specs.Chain.{bytes_of}
use Rattle.pcapio.specs.Counted.{HasNotFailed}
use Rattle.pcapio.specs.WriteBuffer.{unsent}
use Rattle.pcapio.proofs.writer.put_record.Given as goal

abbrev pub invariant-loop-i : goal.invariant-loop-i
invariant-loop-i g l = record {
  added : Appends (unsent g.W.Write.contents l.fn.behind l.fn.device) (unsent g.W.Write.contents l.behind l.device) (l.head ++ bytes_of (take l.i l.chain));
  well : HasNotFailed l.fn.device l.device;
}
