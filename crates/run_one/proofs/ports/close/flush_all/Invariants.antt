use Rattle.std.proofs.Common.{◌≡◌, None, vec_len}
use Rattle.run_one.specs.PortSteps.{AreToldBelow}
use Rattle.run_one.specs.Failing.{FailsOnce}
use Rattle.run_one.proofs.ports.close.flush_all.Given as goal

abbrev pub invariant-loop-i : goal.invariant-loop-i
invariant-loop-i g l = record {
  many : vec_len l.writers ≡ vec_len l.fn.writers;
  told : AreToldBelow g.W.Write.contents l.i l.fn.writers.items l.writers.items;
  works : FailsOnce l.fn.writers.items l.writers.items None;
}
