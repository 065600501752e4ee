use Rattle.std.proofs.Common.{◌≡◌, ◌+◌, length, List, ℕ}
use Rattle.std.specs.Io.KnownBytes.{Consumes}
use Rattle.pcapio.specs.Counted.{HasNotFailed}
use Rattle.pcapio.specs.ReadBuffer.{unread}
use Rattle.pcapio.proofs.read_buffer.ReadBuffer.skip.Given as goal

abbrev pub invariant-loop-left : goal.invariant-loop-left
invariant-loop-left g l = record {
  taken : (bytes : List ℕ) × (length bytes + l.left ≡ l.fn.count)
      × Consumes (unread g.R.Read.remaining l.fn.self l.fn.device) (unread g.R.Read.remaining l.self l.device) bytes;
  well : HasNotFailed l.fn.device l.device;
}

abbrev pub decreases-loop-left : goal.decreases-loop-left
decreases-loop-left g l = l.left
