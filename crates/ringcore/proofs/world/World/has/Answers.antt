use Rattle.ringcore.proofs.Rightness.{knows_planned}
use Rattle.ringcore.proofs.world.World.has.Goals as goal

pub returns-clause-planned : goal.returns-clause-planned
returns-clause-planned c = λ h agree.
    let same = knows_planned c.args.self.now h c.args.actor c.args.step.now agree in
    ((λ is. same.0 (c.exists.ensures.0 is)), (λ is. c.exists.ensures.1 (same.1 is)))
