use Rattle.ringcore.proofs.Rightness.{step_followed}
use Rattle.ringcore.proofs.RunSteps.{on_err_of}
use Rattle.ringcore.proofs.Unchanged.{unchanged_agrees}
use Rattle.ringcore.proofs.world.World.step.Goals as goal

pub returns-clause-ok : goal.returns-clause-ok
returns-clause-ok c = λ h agree right.
    step_followed c.args.self.now c.step_once.new.self h c.args.actor c.args.step c.in_ok-reply.reply c.in_ok-reply.ensures.plans
    c.in_ok-reply.ensures.step agree right

pub returns-in_err-reply-clause-memory : goal.returns-in_err-reply-clause-memory
returns-in_err-reply-clause-memory c =
    on_err_of c.from_residual.result (unchanged_agrees c.args.self.now c.step_once.new.self c.in_err-reply.ensures.memory)
