use Rattle.std.proofs.Common.{◌≤◌, ◌-◌, length, take}
use Rattle.std.specs.Io.KnownBytes.{Appends}
use Rattle.pcapio.specs.Counted.{told, HasNotFailed}
use Rattle.pcapio.proofs.write_buffer.send.Given as goal

abbrev pub invariant-loop-at : goal.invariant-loop-at
invariant-loop-at g l = record {
  within : l.at ≤ length l.bytes;
  told_so_far : Appends (told g.W.Write.contents l.fn.device) (told g.W.Write.contents l.device) (take l.at l.bytes);
  well : HasNotFailed l.fn.device l.device;
}

abbrev pub decreases-loop-at : goal.decreases-loop-at
decreases-loop-at g l = length l.bytes - l.at
