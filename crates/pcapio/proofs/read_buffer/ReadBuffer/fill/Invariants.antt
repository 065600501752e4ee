use Rattle.std.proofs.Common.{length, take, ◌-◌, ◌≤◌, ◌≡◌}
use Rattle.std.specs.Io.KnownBytes.{Consumes}
use Rattle.pcapio.specs.Counted.{HasNotFailed}
use Rattle.pcapio.specs.ReadBuffer.{unread}
use Rattle.pcapio.proofs.read_buffer.ReadBuffer.fill.Given as goal

abbrev pub invariant-loop-at : goal.invariant-loop-at
invariant-loop-at g l = record {
  within : l.at ≤ length l.out;
  same : length l.out ≡ length l.fn.out;
  taken : Consumes (unread g.R.Read.remaining l.fn.self l.fn.device) (unread g.R.Read.remaining l.self l.device) (take l.at l.out);
  well : HasNotFailed l.fn.device l.device;
}

abbrev pub decreases-loop-at : goal.decreases-loop-at
decreases-loop-at g l = length l.initial.out - l.at
