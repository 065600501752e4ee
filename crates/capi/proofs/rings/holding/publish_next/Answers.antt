use Rattle.std.proofs.Common.{◌≡◌, Some, ap, false, length, rules, sym, ◌∙◌}
use Rattle.std.specs.Prelude.{slice_get}
use Rattle.geom.specs.declared.plan.Side.TheVariants.{Put}
use Rattle.fabric.specs.Hands.{rings_of}
use Rattle.fabric.specs.Held.{span_at}
use Rattle.fabric.specs.InPlace.{placed_view}
use Rattle.capi.specs.Holding.{HasAdvanced}
use Rattle.capi.specs.Members.{Rings}
use Rattle.capi.proofs.Settled.{advances}
use Rattle.capi.proofs.rings.holding.publish_next.Goals as goal

pub unreachable-requires : goal.unreachable-requires
unreachable-requires c =
    let port = c.args.port.now in
    let words = c.args.words.now in
    let r = c.args.reserved in
    let f = port.fabric.value in
    let p = c.args.place.now.shape.plan in
    let at : slice_get (rings_of f) r.ring ≡ Some p = ap (slice_get (rings_of f)) (sym c.requires.here) ∙ c.requires.place.0 in
    let plain : p.free ≡ false = c.requires.plain r.ring p at in
    let same : c.deref.result.now ≡ f = search rules in
    advances p (length words) r.range.count words (placed_view port.hand) (placed_view c.try_advance_put_at.new.self) c.in-Err._fault plain c.requires.fewer
    (c.in-Err.ensures.refused.2 p (ap (λ (g : Rings). slice_get (rings_of g) r.ring) same ∙ at))

pub returns-clause-rest : goal.returns-clause-rest
returns-clause-rest c =
    let r = c.args.reserved in
    let rest = c.in-Ok._rest in
    let done = c.in-Ok.ensures.done in
    let advanced : HasAdvanced (span_at Put r) c.args.words.now (placed_view c.args.port.now.hand) (placed_view c.try_advance_put_at.new.self) (span_at Put rest) = record {
      fewer = done.1;
      view = done.3;
      rest = λ i. record { ring = done.2.0 i; side = Put; start = done.2.1.0 i; count = done.2.1.1 i };
    } in
    (rest, done.0, advanced)
