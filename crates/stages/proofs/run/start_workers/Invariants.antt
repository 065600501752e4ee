use Rattle.fabric.specs.Hands.{IsHandOf}
use Rattle.stages.proofs.run.start_workers.Given as goal

abbrev pub invariant-loop-started : goal.invariant-loop-started
invariant-loop-started g l = IsHandOf l.f l.hand
