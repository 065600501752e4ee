use Rattle.std.proofs.Common.{◌≡◌, ◌<◌, arith, length, rules, subst, take}
use Rattle.std.proofs.lemmas.Option.{slice_get_within}
use Rattle.geom.specs.declared.plan.Side.TheVariants as side
use Rattle.fabric.specs.Hands.{rings_of}
use Rattle.fabric.specs.InPlace.{IsPlacedOf, placed_view}
use Rattle.fabric.specs.OneCalls.{MovesOne, RefusesTakeOne}
use Rattle.fabric.specs.Places.{IsPlaceOf}
use Rattle.fabric.specs.declared.fabric.Fabric.{Fabric}
use Rattle.fabric.specs.declared.hand.in_place.OpenSpan.TheVariants as open_span
use Rattle.fabric.specs.declared.hand.in_place.WholeFault.{WholeFault}
use Rattle.fabric.specs.declared.hand.in_place.WholeFault.TheVariants as whole
use Rattle.ringapi.proofs.ends.Consumer.try_take.Goals as goal

pub try_take_one_at-requires : goal.try_take_one_at-requires
try_take_one_at-requires g c =
    let p = c.args.self.now in
    let f = c.deref.result.now in
    let of : IsPlacedOf f p.port.hand = search rules in
    let idle : p.port.hand.span ≡ open_span.Idle = search rules in
    let place : IsPlaceOf f p.at = search rules in
    (omega arith, (omega arith, (of, (idle, (place, (c.known-known.ensures, (f.counts _ side.Take _ place.0, ((λ longer. absurd (omega (arith, longer))), c.requires.one))))))))

pub returns-in-Ok-clause-taken : goal.returns-in-Ok-clause-taken
returns-in-Ok-clause-taken g c =
    let tags = g.T.Tagged.numbers in
    let p = c.args.self.now in
    let f = p.port.fabric.value in
    let ring = p.at.index in
    let r = c.in-Ok._reserved in
    let shown = take r.range.count c.try_take_one_at.new.into in
    let w = placed_view c.try_take_one_at.new.self in
    let same : c.deref.result.now ≡ f = search rules in
    let idle : p.port.hand.span ≡ open_span.Idle = search rules in
    let there : ring < length (rings_of f) = slice_get_within (rings_of f) ring p.at.shape.plan p.of.0 in
    let done = c.in-Ok.ensures.done in
    let moved : MovesOne tags f g.row.N ring (placed_view p.port.hand) side.Take r shown shown w =
    subst (λ (z : Fabric _ _ _). MovesOne tags z g.row.N ring (placed_view p.port.hand) side.Take r shown shown w) same done.3 in
    (record { there = there; idle = idle }, done.0, r, done.2, done.1, moved)

pub returns-in-Err-Start-clause-taken : goal.returns-in-Err-Start-clause-taken
returns-in-Err-Start-clause-taken g c =
    let tags = g.T.Tagged.numbers in
    let p = c.args.self.now in
    let f = p.port.fabric.value in
    let ring = p.at.index in
    let h = c.try_take_one_at.new.self in
    let after = c.try_take_one_at.new.into in
    let same : c.deref.result.now ≡ f = search rules in
    let idle : p.port.hand.span ≡ open_span.Idle = search rules in
    let there : ring < length (rings_of f) = slice_get_within (rings_of f) ring p.at.shape.plan p.of.0 in
    let found = subst (λ (e : WholeFault). RefusesTakeOne tags c.deref.result.now g.row.N ring (placed_view p.port.hand) c.args.into.now after h.span (placed_view h) e)
    c.in-Err-Start.field-0-is c.in-Err-Start.ensures.refused in
    let all = subst (λ (z : Fabric _ _ _). RefusesTakeOne tags z g.row.N ring (placed_view p.port.hand) c.args.into.now after h.span (placed_view h)
    (whole.Start c.in-Err-Start.why)) same found in
    (record { there = there; idle = idle }, all)
