use Rattle.std.proofs.Common.{◌≡◌, ◌+◌, length}
use Rattle.counters.specs.Tally.{records_of}
use Rattle.pcapio.specs.Counted.{HasNotFailed}
use Rattle.pcapio.specs.Reader.{state_of, source_of}
use Rattle.pcapio.specs.declared.reader_state.ReaderState.TheVariants.{Between}
use Rattle.run_one.specs.SoFar.{HasRead}
use Rattle.stages.specs.Custody.{HoldsFor}
use Rattle.stages.proofs.threads.reader.read_all.Given as goal

abbrev pub invariant-loop-turn : goal.invariant-loop-turn
invariant-loop-turn g l = record {
  read : HasRead g.R.Read.remaining g.J.Run.input g.J.Run.room (length g.J.Run.before) l.reader l.progress;
  between : state_of l.reader ≡ Between;
  no_read_failed : HasNotFailed (source_of l.fn.reader) (source_of l.reader);
  turns : l.progress.count + records_of l.progress.oversize ≡ l._turn;
  yours : HoldsFor l.access.hand l.batch l.stock;
}
