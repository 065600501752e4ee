use Rattle.std.proofs.Common.{◌≡◌, ◌∙◌, ap, length, rules, subst}
use Rattle.fabric_laws.specs.declared.view.View.{View}
use Rattle.fabric.specs.Closed.{IsAll, IsLast}
use Rattle.fabric.specs.Hands.{pool_of, rings_of}
use Rattle.capi.specs.Members.{Rings}
use Rattle.capi.specs.RingCalls.{member_view}
use Rattle.capi.specs.Spans.{tags}
use Rattle.capi.specs.declared.rings.word64.Word64.{Word64}
use Rattle.capi.proofs.rings.ending.close.Goals as goal

pub returns-in-Ok-clause-closed : goal.returns-in-Ok-clause-closed
returns-in-Ok-clause-closed c =
    let m = c.args.member in
    let same : c.in-Ok.whole ≡ m.port.fabric.value = search rules in
    let whole : ◌≡◌ {A = Rings × View Word64} (c.in-Ok.whole, c.into_hand.result.share.seat.me.0) (m.port.fabric.value, member_view m) =
    λ i. (same i, (c.into_hand.ensures.same i).me.0) in
    record {
      rings = c.close.ensures.rings ∙ ap (λ f. length (rings_of f)) same;
      last = subst (λ (z : Rings × View Word64). IsLast tags (rings_of z.0) (pool_of z.0) z.1 c.close.result) whole c.close.ensures.last;
      all = subst (λ (z : Rings × View Word64). IsAll tags (rings_of z.0) z.1 c.close.result) whole c.close.ensures.all;
    }
