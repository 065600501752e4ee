use Rattle.std.proofs.Common.{◌≡◌, ap, refl, rules, ◌∙◌}
use Rattle.geom.specs.declared.plan.Side.TheVariants.{Take}
use Rattle.fabric_laws.specs.Changes.{settled}
use Rattle.fabric.specs.Held.{span_at}
use Rattle.fabric.specs.InPlace.{placed_view}
use Rattle.fabric.specs.declared.hand.in_place.OpenSpan.TheVariants as open_span
use Rattle.fabric.proofs.Rows.{take_whole}
use Rattle.ringapi.proofs.ends.Consumer.try_finish.Goals as goal

pub returns-in-Ok-clause-finished : goal.returns-in-Ok-clause-finished
returns-in-Ok-clause-finished g c =
    let h = c.args.self.now.port.hand in
    let words = c.args.words.now in
    let r = c.in-Take.reserved in
    let open_now : h.span ≡ open_span.Take r = search rules in
    let done = c.in-Ok.ensures.done in
    (r, open_now, done.0, done.2 ∙ ap (λ l. settled (span_at Take r) l (placed_view h)) (take_whole g.T.Tagged.numbers words _ refl))
