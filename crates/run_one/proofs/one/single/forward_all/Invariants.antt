use Rattle.std.proofs.Common.{◌≡◌, ◌≤◌, ◌+◌, ◌*◌, None, length, vec_len}
use Rattle.std.specs.Prelude.{min}
use Rattle.counters.specs.Tally.{records_of}
use Rattle.ipv4.specs.Prefetched.{AreLookedUp}
use Rattle.mbuf.specs.Chain.{space_of}
use Rattle.pcapio.specs.Counted.{HasNotFailed}
use Rattle.pcapio.specs.Reader.{state_of, source_of}
use Rattle.pcapio.specs.declared.reader_state.ReaderState.TheVariants.{Between}
use Rattle.run_one.specs.SoFar.{HasRead}
use Rattle.run_one.specs.Turns.{IsVacant}
use Rattle.run_one.proofs.one.single.forward_all.Given as goal

abbrev pub invariant-loop-turn : goal.invariant-loop-turn
invariant-loop-turn g l = record {
  read : HasRead g.R.Read.remaining g.J.Run.input g.J.Run.room (length g.J.Run.before) l.reader l.progress;
  between : state_of l.reader ≡ Between;
  no_read_failed : HasNotFailed (source_of l.fn.reader) (source_of l.reader);
  turns : l.progress.count + records_of l.progress.oversize ≡ l._turn;
  next : l.sink.window.next ≡ l.progress.count;
  vacant : IsVacant l.sink.window;
  space : min (64 * l.room) 262144 ≤ space_of l.chains.long;
  writers : vec_len l.sink.outputs.writers ≡ vec_len l.fn.sink.outputs.writers;
  well : l.sink.outputs.failed ≡ None;
  looked_up : AreLookedUp l.settings.table.members l.ahead.lookups;
}
