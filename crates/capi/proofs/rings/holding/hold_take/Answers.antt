use Rattle.std.proofs.Common.{◌≡◌, ◌<◌, length, refl, rules, subst, sym, ℕ}
use Rattle.geom.specs.declared.plan.Side.TheVariants.{Take}
use Rattle.fabric.specs.Hands.{rings_of}
use Rattle.fabric.specs.Held.{span_at}
use Rattle.fabric.specs.InPlace.{placed_view}
use Rattle.capi.specs.Holding.{IsHeldNow}
use Rattle.capi.specs.Members.{Rings}
use Rattle.capi.specs.Spans.{HasReserved}
use Rattle.capi.proofs.Reserving.{reserved_of}
use Rattle.capi.proofs.rings.holding.hold_take.Goals as goal

pub returns-in-Ok : goal.returns-in-Ok
returns-in-Ok c =
    let f = c.deref-2.result.now in
    let v = placed_view c.args.member.now.port.hand in
    let r = c.in-Ok.reserved in
    let h = c.try_hold_take.new.self in
    let w = placed_view h in
    let found = c.in-Ok.ensures in
    let same : f ≡ c.args.member.now.port.fabric.value = search rules in
    let there : c.args.ring < length (rings_of f) = search rules in
    let reserved : HasReserved f 4095 c.args.how c.args.n c.args.ring Take v (span_at Take r) r.range.left w.shown w =
    reserved_of f 4095 c.args.how c.args.n c.args.ring Take v (span_at Take r) r.range.left w.shown w there found.started.1 refl found.started.2
    found.may found.opened in
    let held : IsHeldNow f c.args.how c.args.n c.args.ring v c.count.result c.left-member.result h.span w = record {
      r = r;
      held = found.started.0;
      reserved = subst (λ (left : ℕ). HasReserved f 4095 c.args.how c.args.n c.args.ring Take v (span_at Take r) left w.shown w) (sym c.left-member.ensures) reserved;
      many = search rules;
      shown = search rules;
    } in
    let done : IsHeldNow c.args.member.now.port.fabric.value c.args.how c.args.n c.args.ring v c.count.result c.left-member.result h.span w =
    subst (λ (g : Rings). IsHeldNow g c.args.how c.args.n c.args.ring v c.count.result c.left-member.result h.span w) same held in
    search (rules, done)
