use Rattle.std.proofs.Common.{ap, sym, ◌∙◌}
use Rattle.live_routes.proofs.Steps.{published}
use Rattle.live_routes.proofs.writer.RouteWriter.publish_settled.Goals as goal

pub invariant_of-self-2 : goal.invariant_of-self-2
invariant_of-self-2 g c =
    let done = c.in_default-publish.ensures.ok in
    published c.self.inside.publisher c.publish.new.self c.self.inside.spare c.take.new.self c.self.inside.is_ready _
    c.in-Some.fib c.self.invariant (ap (λ w. w.settled) c.self.view_is ∙ c.requires)
    (sym c.take.ensures.value ∙ c.in-Some.is) c.take.ensures.after done.0 done.1
