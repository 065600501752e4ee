use Rattle.std.proofs.Common.{map}
use Rattle.pcapio.specs.Counted.{told, failures_of}
use Rattle.pcapio.specs.Reader.{order_of, resolution_of, rest, source_of}
use Rattle.run_one.specs.Ports.{devices_of}
use Rattle.run_one.specs.Whole.{forwarding_by}
use Rattle.run_one.proofs.Opened.{input_of}
use Rattle.stages.proofs.run.run_threads.Given as goal

abbrev pub ghosts-run_started : goal.ghosts-run_started
ghosts-run_started g a = record {
  input = input_of (order_of a.reader) (rest g.R.Read.remaining a.reader);
  room = a.settings.now.room;
  forwarding = forwarding_by a.settings.now;
  resolution = resolution_of a.reader;
  before = map (told g.W.Write.contents) (devices_of a.outputs.writers.items);
  failures = map failures_of (devices_of a.outputs.writers.items);
  read_failures = failures_of (source_of a.reader);
}
