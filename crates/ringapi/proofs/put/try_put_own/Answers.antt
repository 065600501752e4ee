use Rattle.std.proofs.Common.{[], ◌≤◌, arith, length, refl, rules, sym, subst, ◌∙◌}
use Rattle.geom.specs.declared.plan.Side.TheVariants.{Put}
use Rattle.ringcore_laws.proofs.Laws.{same_plan}
use Rattle.fabric.specs.Hands.{put_left, put_span, put_view, view}
use Rattle.fabric.specs.Starts.{RefusesCount, RefusesStart, Starts}
use Rattle.ringapi.specs.Puts.{left_of}
use Rattle.ringapi.proofs.Putting.{plan_of, settled_of, settled_tells}
use Rattle.ringapi.proofs.Tries.{count_few, first_reserved}
use Rattle.ringapi.proofs.Yours.{first_yours, opened_yours}
use Rattle.ringapi.proofs.put.try_put_own.Goals as goal

pub settle-requires : goal.settle-requires
settle-requires g c =
    let o = c.in-Ok.span in
    let s = c.in-Ok.ensures.started in
    let tags = g.T.Tagged.numbers in
    let items = (g.I.Items.items c.args.list.now) in
    let plan = o.ring.shape.now.plan in
    let at = plan_of o c.args.f.now c.args.ring s.0 s.1 in
    let starts = s.2 plan at in
    let few : (put_span o).count ≤ length items = omega (
      arith,
      c.len.ensures.value,
      count_few tags g.row.N c.args.how c.len.result c.args.ring Put plan (view c.args.hand) (put_span o).start (put_span o).count
          (put_left o) [] (put_view o) starts,
    ) in (
      search rules,
      (
        search rules,
        (
          few,
          first_yours tags plan (put_view o) items (put_span o).count
              (opened_yours tags plan (view c.args.hand) (put_view o) items (put_span o) c.in-Ok.ensures.opened (c.requires.yours plan at)),
        ),
      ),
    )

pub returns-in-Ok-clause-made : goal.returns-in-Ok-clause-made
returns-in-Ok-clause-made g c =
    let s = c.in-Ok.ensures.started in
    settled_of c.args.f.now c.args.ring c.in-Ok.span (g.I.Items.items c.args.list.now) c.settle.result (left_of c.settle.result (g.I.Items.items c.args.list.now)) s.0 s.1 c.settle.ensures.settled

pub returns-in-Ok-clause-exact : goal.returns-in-Ok-clause-exact
returns-in-Ok-clause-exact g c plan there =
    let o = c.in-Ok.span in
    let s = c.in-Ok.ensures.started in
    let tags = g.T.Tagged.numbers in
    let items = (g.I.Items.items c.args.list.now) in
    let v = view c.args.hand in
    let at = plan_of o c.args.f.now c.args.ring s.0 s.1 in
    settled_tells tags c.args.how c.args.ring plan v items [] [] o c.settle.result (left_of c.settle.result (g.I.Items.items c.args.list.now)) s.1
    (same_plan (sym at ∙ there)) (c.requires.yours plan there)
    (first_reserved tags g.row.N c.args.how (length items) c.args.ring Put plan v [] v (put_span o).start (put_span o).count (put_left o) [] (put_view o) refl
    (subst (λ n. Starts tags c.args.how n c.args.ring Put plan v (put_span o).start (put_span o).count (put_left o) [] (put_view o)) c.len.ensures.value
    (s.2 plan there)))
    c.settle.ensures.settled

pub returns-in-Err-clause-exact : goal.returns-in-Err-clause-exact
returns-in-Err-clause-exact g c plan there =
    let tags = g.T.Tagged.numbers in
    let r = c.in-Err.ensures in
    let v = view c.args.hand in
    let long = c.len.ensures.value in (
      c.requires.yours plan there,
      refl,
      v,
      refl,
      subst (λ n. RefusesStart tags g.row.N c.args.how n c.args.ring Put plan v (view c.in-Err.hand) c.in-Err.fault) long (r.refused.1 plan there).steps,
      subst (λ n. RefusesCount tags g.row.N n Put plan v c.in-Err.fault) long (r.refused.1 plan there).count,
    )

pub returns-in-Ok-clause-true_refusal : goal.returns-in-Ok-clause-true_refusal
returns-in-Ok-clause-true_refusal g c plan there = c.settle.ensures.true_refusal c.args.ring plan

pub returns-in-Err-clause-true_refusal : goal.returns-in-Err-clause-true_refusal
returns-in-Err-clause-true_refusal g c plan there =
    let r = c.in-Err.ensures.refused.1 plan there in (view c.args.hand, r.kept, r.others)
