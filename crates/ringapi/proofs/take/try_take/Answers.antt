use Rattle.std.proofs.Common.{[], ap, refl, rules, sym, ◌∙◌}
use Rattle.geom.specs.declared.plan.Side.TheVariants.{Take}
use Rattle.ringcore_laws.proofs.Laws.{same_plan}
use Rattle.fabric.specs.Hands.{OnRing, rings_of, take_left, take_span, take_view, view}
use Rattle.ringapi.specs.Takes.{TakeTells}
use Rattle.fabric.proofs.Told.{ring_at}
use Rattle.ringapi.proofs.Taking.{plan_of, settled_of, settled_tells, tells_settles}
use Rattle.ringapi.proofs.Tries.{first_reserved}
use Rattle.ringapi.proofs.take.try_take.Goals as goal

pub returns-in-Ok-clause-taken : goal.returns-in-Ok-clause-taken
returns-in-Ok-clause-taken g c =
    let o = c.in-Ok.span in
    let s = c.in-Ok.ensures.started in
    let tags = g.T.Tagged.numbers in
    let v = view c.args.hand in
    let shown = g.I.Items.items c.try_start_take_into.new.into in
    let at = plan_of o c.args.f.now c.args.ring s.0 s.1 in
    let w = ring_at (rings_of c.args.f.now) c.args.ring c.requires.ring in
    let is : OnRing c.args.f.now c.args.ring (λ plan. TakeTells tags c.args.how c.args.n c.args.ring plan v [] [] c.settle.result (g.I.Items.items c.settle.new.items)) = λ plan there.
    settled_tells g.row.N tags c.args.how c.args.n c.args.ring plan v [] [] o shown c.settle.result (g.I.Items.items c.settle.new.items) s.1 (same_plan (sym at ∙ there)) s.2
    (first_reserved tags g.row.N c.args.how c.args.n c.args.ring Take plan v [] v (take_span o).start (take_span o).count (take_left o) shown (take_view o) refl
    (s.3 plan there))
    c.settle.ensures.settled in
    let made = settled_of tags c.args.f.now c.args.ring o shown c.settle.result (g.I.Items.items c.settle.new.items) s.0 s.1 c.settle.ensures.settled in
    record {
      made = made;
      exact = is;
      settled = tells_settles g.row.N tags c.args.how c.args.n c.args.ring w.0 v [] [] c.args.f.now c.settle.result (g.I.Items.items c.settle.new.items) w.1 made (is w.0 w.1);
      true_refusal = λ plan there. c.settle.ensures.true_refusal c.args.ring plan;
    }

pub returns-in-Err-clause-taken : goal.returns-in-Err-clause-taken
returns-in-Err-clause-taken g c =
    let r = c.in-Err.ensures in
    let w = ring_at (rings_of c.args.f.now) c.args.ring c.requires.ring in
    let none = r.refused.2 w.0 w.1 in
    record {
      made = search rules;
      exact = λ plan there.
          let is = r.refused.2 plan there in (ap g.I.Items.items r.refused.1 ∙ c.requires.empty, view c.args.hand, refl, is.steps, is.count);
      settled = (ap (λ p. p.settled) none.kept.party, none.worn);
      true_refusal = λ plan there. let is = r.refused.2 plan there in (view c.args.hand, is.kept, is.others);
    }
