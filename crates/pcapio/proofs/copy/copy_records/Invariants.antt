use Rattle.std.proofs.Common.{◌≡◌, List, length}
use Rattle.std.specs.Io.KnownBytes.{Appends}
use Rattle.mbuf.specs.Chain.{space_of, HasSameSegments}
use Rattle.pcapio_laws.specs.Capture.{Packet}
use Rattle.pcapio.specs.Copy.{copied_text, Stand}
use Rattle.pcapio.specs.Counted.{HasNotFailed}
use Rattle.pcapio.specs.Reader.{rest, order_of, source_of, IsReading}
use Rattle.pcapio.specs.Writer.{text, sink_of, IsWell}
use Rattle.pcapio.proofs.copy.copy_records.Given as goal

abbrev pub invariant-loop-count : goal.invariant-loop-count
invariant-loop-count g l = record {
  packets : List Packet;
  many : length packets ≡ l._count;
  stand : Stand (order_of l.fn.reader) (rest g.R.Read.remaining l.fn.reader) (rest g.R.Read.remaining l.reader) packets;
  written : Appends (text g.W.Write.contents l.fn.writer) (text g.W.Write.contents l.writer) (copied_text (space_of l.fn.chain) packets);
  order : order_of l.reader ≡ order_of l.fn.reader;
  reading : IsReading l.reader;
  well : IsWell l.writer;
  space : HasSameSegments l.chain l.fn.chain;
  no_read_failed : HasNotFailed (source_of l.fn.reader) (source_of l.reader);
  no_write_failed : HasNotFailed (sink_of l.fn.writer) (sink_of l.writer);
}
