use Rattle.ringcore.proofs.Rightness.{run_followed}
use Rattle.ringcore.proofs.RunSteps.{beginning_followed, on_err_of}
use Rattle.ringcore.proofs.world.World.run.Goals as goal

pub returns-clause-ok : goal.returns-clause-ok
returns-clause-ok c = λ h agree right.
    run_followed c.args.self.now c.run_all.new.self h c.args.entries.items c.in_ok-replies.replies.items c.in_ok-replies.ensures.plans
    c.in_ok-replies.ensures.run agree right

pub returns-in_err-replies-clause-memory : goal.returns-in_err-replies-clause-memory
returns-in_err-replies-clause-memory c =
    on_err_of c.from_residual.result
    (beginning_followed c.args.self.now c.run_all.new.self c.args.entries.items c.in_err-replies.ensures.plans c.in_err-replies.ensures.memory)
