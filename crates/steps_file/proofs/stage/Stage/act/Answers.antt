use Rattle.std.proofs.Common.{◌≡◌, ◌++◌, List, Result, Ok, Err, OnOk, Option, IfSome, true, false, sym, ap, ◌∙◌, codes, rules, subst}
use Rattle.std.specs.Prelude.{is_err}
use Rattle.geom.specs.declared.plan.RingPlan.{RingPlan}
use Rattle.ringcore.specs.declared.world.World.{World}
use Rattle.steps_file.specs.Plans.{Named, named}
use Rattle.steps_file.specs.Replies.{running, reply_in, answer_text, mode_shown}
use Rattle.steps_file.specs.Standing.{IsRunning}
use Rattle.steps_file.proofs.Planned.{planned_is}
use Rattle.steps_file.proofs.stage.Stage.act.Goals as goal

-- what holds at `Ok`, if the result isn't `Err`
held : {T E P : Type 0} (r : Result T E) → is_err r ≡ false → OnOk r P → P
held (Ok value) fine at_ok = at_ok
held (Err error) fine at_ok = absurd (let h : true ≡ false = fine in cc)

pub returns-clause-ok : goal.returns-clause-ok
returns-clause-ok c =
    let well : is_err c.answer_step.result ≡ false = search rules in
    let known : c.has.result ≡ true = search rules in
    let world = held c.answer_step.result well c.answer_step.ensures.world in
    let told = held c.answer_step.result well c.answer_step.ensures.reply in
    λ s keeps.
    let h = running s in
    let runs : IsRunning s.plan c.in-Some.world h =
    subst (λ (o : Option World). IfSome o (λ w. IsRunning s.plan w h)) c.in-Some.is (c.in_ok-open_world.ensures.opened s keeps) in
    let both = planned_is h c.args.actor c.args.step c.has.result (c.has.ensures.planned h runs.agrees) in
    let plan : named c.open_world.new.self.draft ≡ s.plan = ap named c.open_world.ensures.kept ∙ keeps.plan in
    let after = world h runs.agrees runs.right in
    let rings : c.as_slice-rings.result.now ≡ s.plan.rings =
    c.as_slice-rings.ensures.value ∙ ap (λ (p : Named). p.rings) plan in
    let reply = reply_in h c.args.actor c.args.step in
    record {
      kept = record { plan = plan; run = record { agrees = after.0; right = after.1; lawful = runs.lawful } };
      admitted = sym both ∙ known;
      reply =
          told h runs.agrees runs.right
          ∙ ap (λ (rs : List RingPlan). c.args.reply.now.items ++ (answer_text (mode_shown rs c.args.step) reply ++ codes "\n"))
          rings;
    }
