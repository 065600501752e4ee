use Rattle.std.proofs.Common.{◌≡◌, ◌∙◌, refl, rules, subst}
use Rattle.fabric.specs.declared.hand.in_place.OpenSpan.TheVariants as open_span
use Rattle.fabric.specs.InPlace.{placed_view}
use Rattle.fabric_laws.specs.declared.view.View.{View}
use Rattle.capi.specs.Calls.{PutsOne}
use Rattle.capi.specs.Members.{Rings}
use Rattle.capi.specs.declared.rings.word64.Word64.{Word64}
use Rattle.capi.proofs.EndCalls.{alone_put}
use Rattle.capi.proofs.rings.end_calls.put_alone.Goals as goal

pub returns : goal.returns
returns c =
    let m = c.args.member.now in
    let idle : m.port.hand.span ≡ open_span.Idle = search rules in
    let same = c.look_first.ensures in
    alone_put _ _ m _ _ idle (c.put_one_at.ensures.fabric ∙ same.fabric, refl)
    (subst (λ (z : Rings × View Word64). PutsOne z.0 m.ends.put.at.index z.1 c.args.word (placed_view c.put_one_at.new.port.hand) c.put_one_at.result)
    (λ k. ((same.fabric k).value, same.view k)) c.put_one_at.ensures.put)
