use Rattle.std.proofs.Common.{◌≡◌, rules}
use Rattle.fabric.specs.declared.hand.in_place.OpenSpan.TheVariants as open_span
use Rattle.ringapi.proofs.ends.Producer.try_finish.Goals as goal

pub returns-in-Ok-clause-finished : goal.returns-in-Ok-clause-finished
returns-in-Ok-clause-finished g c =
    let open_now : c.args.self.now.port.hand.span ≡ open_span.Put c.in-Put.reserved = search rules in
    let done = c.in-Ok.ensures.done in
    (c.in-Put.reserved, open_now, done.0, done.2)
