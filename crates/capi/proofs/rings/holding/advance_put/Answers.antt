use Rattle.std.proofs.Common.{◌≡◌, refl, rules}
use Rattle.fabric.specs.declared.hand.in_place.OpenSpan.TheVariants as open_span
use Rattle.capi.proofs.Held.{put_next}
use Rattle.capi.proofs.rings.holding.advance_put.Goals as goal

pub returns : goal.returns
returns c =
    let m = c.args.member.now in
    let r = c.in-Put.reserved in
    let here : m.port.hand.span ≡ open_span.Put r = search rules in
    let rest = c.publish_next.ensures.rest in
    put_next c.args.words.now m _ r rest.0 _ here (c.publish_next.ensures.fabric, refl) rest.1 rest.2 c.publish_next.ensures.count
