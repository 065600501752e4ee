use Rattle.std.specs.Prelude.{Some, slice_get}
use Rattle.std.proofs.Common.{[], ◌≡◌, ◌<◌, ap, arith, length, rules, subst, take, ◌∙◌}
use Rattle.std.proofs.lemmas.Option.{slice_get_within}
use Rattle.geom.specs.declared.plan.Side.TheVariants.{Put}
use Rattle.fabric.specs.Hands.{rings_of}
use Rattle.fabric.specs.InPlace.{IsPlacedOf, placed_view}
use Rattle.fabric.specs.OneCalls.{MovesOne, RefusesPutOne}
use Rattle.fabric.specs.Places.{IsPlaceOf}
use Rattle.fabric.specs.declared.fabric.Fabric.{Fabric}
use Rattle.fabric.specs.declared.hand.in_place.OpenSpan.TheVariants as open_span
use Rattle.fabric.specs.declared.hand.in_place.WholeFault.{WholeFault}
use Rattle.fabric.specs.declared.hand.in_place.WholeFault.TheVariants as whole
use Rattle.ringapi.proofs.OneCalls.{one_moved}
use Rattle.ringapi.proofs.ends.Producer.try_put.Goals as goal

pub try_put_one_at-requires : goal.try_put_one_at-requires
try_put_one_at-requires g c =
    let p = c.args.self.now in
    let f = c.deref.result.now in
    let of : IsPlacedOf f p.port.hand = search rules in
    let idle : p.port.hand.span ≡ open_span.Idle = search rules in
    let place : IsPlaceOf f p.at = search rules in
    (omega arith, (omega arith, (of, (idle, (place, (c.known-known.ensures, (f.counts _ Put _ place.0, ((λ longer. absurd (omega (arith, longer))), c.requires.one))))))))

pub returns-in-Ok-clause-put : goal.returns-in-Ok-clause-put
returns-in-Ok-clause-put g c =
    let tags = g.T.Tagged.numbers in
    let p = c.args.self.now in
    let f = p.port.fabric.value in
    let ring = p.at.index in
    let items = g.I.Items.items c.args.item.now in
    let r = c.in-Ok._reserved in
    let same : c.deref.result.now ≡ f = search rules in
    let idle : p.port.hand.span ≡ open_span.Idle = search rules in
    let there : ring < length (rings_of f) = slice_get_within (rings_of f) ring p.at.shape.plan p.of.0 in
    let done = c.in-Ok.ensures.done in
    let moved : MovesOne tags f g.row.N ring (placed_view p.port.hand) Put r [] (take r.range.count items) (placed_view c.try_put_one_at.new.self) =
    subst (λ (z : Fabric _ _ _). MovesOne tags z g.row.N ring (placed_view p.port.hand) Put r [] (take r.range.count items) (placed_view c.try_put_one_at.new.self)) same done.1 in
    (record { there = there; idle = idle }, done.0, r, moved)

pub returns-in-Ok-clause-done : goal.returns-in-Ok-clause-done
returns-in-Ok-clause-done g c =
    let tags = g.T.Tagged.numbers in
    let p = c.args.self.now in
    let f = c.deref.result.now in
    let r = c.in-Ok._reserved in
    let items = g.I.Items.items c.args.item.now in
    let place : slice_get (rings_of f) p.at.index ≡ Some p.at.shape.plan = search rules in
    let there : p.at.index < length (rings_of f) = slice_get_within (rings_of f) p.at.index p.at.shape.plan place in
    let done = c.in-Ok.ensures.done in
    done.2 ∙ ap (g.I.PutItems.after items) (one_moved tags f g.row.N p.at.index (placed_view p.port.hand) Put r [] (take r.range.count items) _ there done.1)

pub returns-in-Err-Start-clause-put : goal.returns-in-Err-Start-clause-put
returns-in-Err-Start-clause-put g c =
    let tags = g.T.Tagged.numbers in
    let p = c.args.self.now in
    let f = p.port.fabric.value in
    let ring = p.at.index in
    let h = c.try_put_one_at.new.self in
    let items = g.I.Items.items c.args.item.now in
    let same : c.deref.result.now ≡ f = search rules in
    let idle : p.port.hand.span ≡ open_span.Idle = search rules in
    let there : ring < length (rings_of f) = slice_get_within (rings_of f) ring p.at.shape.plan p.of.0 in
    let found = subst (λ (e : WholeFault). RefusesPutOne tags c.deref.result.now g.row.N ring (placed_view p.port.hand) items h.span (placed_view h) e)
    c.in-Err-Start.field-0-is c.in-Err-Start.ensures.refused.0 in
    let all = subst (λ (z : Fabric _ _ _). RefusesPutOne tags z g.row.N ring (placed_view p.port.hand) items h.span (placed_view h) (whole.Start c.in-Err-Start.why))
    same found in
    (record { there = there; idle = idle }, all)
