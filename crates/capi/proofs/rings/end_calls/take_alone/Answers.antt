use Rattle.std.proofs.Common.{◌≡◌, ◌∙◌, refl, rules, subst}
use Rattle.fabric.specs.declared.hand.in_place.OpenSpan.TheVariants as open_span
use Rattle.fabric.specs.InPlace.{placed_view}
use Rattle.fabric_laws.specs.declared.view.View.{View}
use Rattle.capi.specs.Calls.{TakesOne}
use Rattle.capi.specs.Members.{Rings}
use Rattle.capi.specs.declared.rings.word64.Word64.{Word64}
use Rattle.capi.proofs.EndCalls.{alone_take}
use Rattle.capi.proofs.rings.end_calls.take_alone.Goals as goal

pub returns : goal.returns
returns c =
    let m = c.args.member.now in
    let idle : m.port.hand.span ≡ open_span.Idle = search rules in
    let same = c.look_first.ensures in
    alone_take _ _ _ m _ _ idle (c.take_one_at.ensures.fabric ∙ same.fabric, refl)
    (subst (λ (z : Rings × View Word64). TakesOne z.0 m.ends.take.at.index z.1 c.args.words.now c.take_one_at.new.words (placed_view c.take_one_at.new.port.hand) c.take_one_at.result)
    (λ k. ((same.fabric k).value, same.view k)) c.take_one_at.ensures.take)
