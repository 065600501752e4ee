use Rattle.geom.specs.declared.plan.How.TheVariants.{Bulk}
use Rattle.fabric.proofs.AtOnce.{recent_started}
use Rattle.fabric.proofs.ring.Ring.open_one.Goals as goal

pub returns-clause-recent : goal.returns-clause-recent
returns-clause-recent g c _ =
    recent_started g.T.Tagged.numbers c.args.most 1 Bulk c.args.side c.args.self.now _ c.open_span.new.share.seat c.in-Ok.range c.after.result
    c.in-Ok.ensures.started c.after.ensures.own c.after.ensures.word c.after.ensures.whole c.after.ensures.left
