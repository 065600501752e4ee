use Rattle.std.proofs.Common.{◌≡◌, ◌+◌, ◌-◌, ℕ, ap, arith, length, refl, sym, take, ◌∙◌}
use Rattle.std.proofs.lemmas.Grind.{common_steps}
use Rattle.geom.specs.declared.plan.Side.TheVariants.{Take}
use Rattle.fabric.specs.Held.{span_at}
use Rattle.fabric.specs.InPlace.{placed_view}
use Rattle.capi.specs.Holding.{HasAdvanced}
use Rattle.capi.proofs.rings.holding.withdraw_next.Goals as goal

pub returns-clause-next : goal.returns-clause-next
returns-clause-next c =
    let r = c.args.reserved in
    let rest = c.advance_take_at-rest.result in
    let v = placed_view c.args.port.now.hand in
    let w = placed_view c.advance_take_at-rest.new.self in
    let done = c.advance_take_at-rest.ensures in
    let k = length c.args.words.now in
    let long : length (take k v.shown) ≡ k = ap length (sym done.items) ∙ done.many in
    let advanced : HasAdvanced (span_at Take r) (take k v.shown) v w (span_at Take rest) = record {
      fewer = omega (arith, long, c.requires.fewer);
      view = done.view;
      rest = λ i. record {
        ring = done.rest.1.0 i;
        side = Take;
        start = (done.rest.1.1.0 ∙ ap (λ (n : ℕ). r.range.start + n) (sym long)) i;
        count = (done.rest.1.1.1 ∙ ap (λ (n : ℕ). r.range.count - n) (sym long)) i;
      };
    } in
    (refl, grind (arith, common_steps), rest, done.rest.0, advanced)
