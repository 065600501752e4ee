use Rattle.std.proofs.Common.{◌≡◌, ◌<◌, ap, arith, length, sym, ◌∙◌}
use Rattle.std.specs.Prelude.{Some, slice_get}
use Rattle.geom.specs.declared.plan.Mode.TheVariants.{Hts, Multi}
use Rattle.fabric.specs.Hands.{rings_of}
use Rattle.fabric.specs.InPlace.{placed_view}
use Rattle.fabric.specs.declared.hand.in_place.OpenSpan.TheVariants as open_span
use Rattle.fabric.proofs.Told.{ring_at}
use Rattle.capi.proofs.rings.finishing.finish_take.Goals as goal

-- the span is still open, on a multi side
pub returns-in-Err-clause-shows : goal.returns-in-Err-clause-shows
returns-in-Err-clause-shows c = λ r is hts.
    let reserved = c.args.reserved in
    let rings = rings_of c.args.f.now in
    let early = c.in-Err.ensures.early in
    let same : open_span.Take reserved ≡ open_span.Take r = sym c.requires.open ∙ sym early.1 ∙ is in
    let here : reserved.ring ≡ r.ring = cc in
    let there : reserved.ring < length rings = omega (arith, (c.args.hand.now.take reserved c.requires.open).there, ap length c.requires.of.1) in
    let p = ring_at rings reserved.ring there in
    let at : slice_get (placed_view c.withdraw_all.new.hand).plans r.ring ≡ Some p.0 =
    (λ i. slice_get (c.withdraw_all.ensures.of.1 i) (sym here i)) ∙ p.1 in
    let one : p.0.take ≡ Hts = hts p.0 at in
    let other : p.0.take ≡ Multi = early.2.multi p.0 p.1 in
    absurd (let z : Hts ≡ Multi = sym one ∙ other in cc)
