-- A turn of the loop is one step of the run
use Rattle.std.proofs.Common.{◌≡◌, ◌∙◌, ℕ, List, [], ◌∷◌, ◌++◌, subst, sym, vec_len}
use Rattle.ringcore_laws.specs.declared.protocol.Step.{Step}
use Rattle.ringcore_laws.specs.declared.protocol.Reply.{Reply}
use Rattle.ringcore.specs.Runs.{ExistAll, RunsTo}
use Rattle.ringcore.proofs.RunSteps.{on_err_of, run_goes_on, run_unchanged}
use Rattle.ringcore.proofs.world.World.run_all.Goals as goal
use Rattle.ringcore.specs.Planned.{plans_of, world_rings}

pub loop-actor-preserved : goal.loop-actor-preserved
loop-actor-preserved c =
    let old = c.loop-actor.self in
    let new = c.step_once.new.self in
    let counts = c.in_ok-reply.ensures.counts in
    let first : c.loop-actor.rest.items ≡ (c.in-Some.actor, c.in-Some.step) ∷ c.pop_front.new.self.items = c.in-Some.ensures.items in
    let all : ExistAll (vec_len old.members) (vec_len old.rings) ((c.in-Some.actor, c.in-Some.step) ∷ c.pop_front.new.self.items) =
    subst (λ (v : List (ℕ × Step)). ExistAll (vec_len old.members) (vec_len old.rings) v) first c.loop-actor.invariant.0 in (
      subst (λ (v : ℕ). ExistAll v (vec_len new.rings) c.pop_front.new.self.items) (sym counts.0)
          (subst (λ (v : ℕ). ExistAll (vec_len old.members) v c.pop_front.new.self.items) (sym counts.1) all.2),
      c.in_ok-reply.ensures.plans ∙ c.loop-actor.invariant.1,
      λ pool actors fits k agree.
          subst (λ (v : List Reply). RunsTo (plans_of c.args.self.now) pool actors c.args.entries.items v c.pop_front.new.self.items (world_rings new)
          new.places.items new.members.items)
          (sym c.in_ok-push.ensures.items)
          (run_goes_on (plans_of c.args.self.now) old new pool actors c.args.entries.items c.loop-actor.replies.items c.loop-actor.rest.items
          c.pop_front.new.self.items c.in-Some.actor c.in-Some.step c.in_ok-reply.reply c.loop-actor.invariant.1 first c.in_ok-reply.ensures.step fits
          (c.loop-actor.invariant.2 pool actors fits k agree)),
    )

pub returns-in_err-reply-clause-memory : goal.returns-in_err-reply-clause-memory
returns-in_err-reply-clause-memory c =
    on_err_of c.from_residual.result (λ pool actors fits k agree. (
      c.loop-actor.replies.items,
      c.loop-actor.rest.items,
      run_unchanged (plans_of c.args.self.now) c.loop-actor.self c.step_once.new.self pool actors c.args.entries.items c.loop-actor.replies.items
          c.loop-actor.rest.items c.in_err-reply.ensures.memory (c.loop-actor.invariant.2 pool actors fits k agree),
    ))

pub returns-in_err-push-clause-memory : goal.returns-in_err-push-clause-memory
returns-in_err-push-clause-memory c =
    on_err_of c.from_residual-in_err-push.result (λ pool actors fits k agree. (
      c.loop-actor.replies.items ++ c.in_ok-reply.reply ∷ [],
      c.pop_front.new.self.items,
      run_goes_on (plans_of c.args.self.now) c.loop-actor.self c.step_once.new.self pool actors c.args.entries.items c.loop-actor.replies.items
          c.loop-actor.rest.items c.pop_front.new.self.items c.in-Some.actor c.in-Some.step c.in_ok-reply.reply c.loop-actor.invariant.1
          c.in-Some.ensures.items c.in_ok-reply.ensures.step fits (c.loop-actor.invariant.2 pool actors fits k agree),
    ))
