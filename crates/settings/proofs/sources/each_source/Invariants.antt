use Rattle.std.proofs.Common.{◌≡◌, drop, length}
use Rattle.settings.specs.Faults.{each_ok}
use Rattle.settings.specs.Documents.{tables_view}
use Rattle.settings.specs.Settings.{source_of}
use Rattle.settings.proofs.EachOk.{with_front}
use Rattle.settings.proofs.sources.each_source.Given as goal

abbrev pub invariant-loop-port : goal.invariant-loop-port
invariant-loop-port l = record {
  rest : with_front l.sources.items (each_ok source_of (tables_view (drop l.port-index l.ports))) ≡ each_ok source_of (tables_view l.ports);
  count : length l.sources.items ≡ l.port-index;
}
