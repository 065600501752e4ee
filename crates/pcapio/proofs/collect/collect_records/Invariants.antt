use Rattle.std.proofs.Common.{◌≡◌, List, length, ◌++◌, map}
use Rattle.pcapio.specs.Copy.{Stand}
use Rattle.pcapio.specs.Counted.{HasNotFailed}
use Rattle.pcapio.specs.Reader.{rest, order_of, source_of, IsReading}
use Rattle.pcapio.specs.Record.{view}
use Rattle.pcapio.specs.declared.record.Record.{Record}
use Rattle.pcapio.proofs.collect.collect_records.Given as goal

abbrev pub invariant-loop-count : goal.invariant-loop-count
invariant-loop-count g l = record {
  given : List Record;
  many : length given ≡ l._count;
  added : l.list.items ≡ l.fn.list.items ++ given;
  stand : Stand (order_of l.fn.reader) (rest g.R.Read.remaining l.fn.reader) (rest g.R.Read.remaining l.reader) (map view given);
  order : order_of l.reader ≡ order_of l.fn.reader;
  reading : IsReading l.reader;
  no_read_failed : HasNotFailed (source_of l.fn.reader) (source_of l.reader);
}
