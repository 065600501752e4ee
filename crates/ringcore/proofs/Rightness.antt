-- Right histories, and one more run after them
use Rattle.std.proofs.Common.{◌≡◌, ◌<◌, ◌↔◌, ℕ, List, [], ◌∷◌, ◌++◌, length, refl, sym, ap, subst, ◌∙◌}
use Rattle.std.specs.Prelude.{Option, Some, None, slice_get, vec_len}
use Rattle.std.proofs.lemmas.List.{length-set}
use Rattle.std.proofs.lemmas.List.FromFn.{length-map-range_with_len}
use Rattle.geom.specs.declared.plan.RingPlan.{RingPlan}
use Rattle.std.proofs.lemmas.List.{append-nil}
use Rattle.geom.specs.Fit.{AllFitAny}
use Rattle.ringcore_laws.specs.declared.protocol.Step.{Step}
use Rattle.ringcore_laws.specs.declared.protocol.Reply.{Reply}
use Rattle.ringcore_laws.specs.History.{Actor, Event, IsRun, reply_to, after, after_all, after_step, one_stepped}
use Rattle.ringcore.specs.declared.world.World.{World}
use Rattle.ringcore.specs.Agree.{ListsAgree}
use Rattle.ringcore.specs.Runs.{IsOnRing}
use Rattle.ringcore.specs.Runs.{RunsTo, events_of}
use Rattle.ringcore_laws.specs.Invariant.{Invariant}
use Rattle.ringcore_laws.proofs.OpeningLaws.{opening_kept, from_opening}
use Rattle.ringcore_laws.proofs.RunLaws.{one_span_each, run_kept}
use Rattle.ringcore_laws.proofs.RefusalLaws.{puts_find_room}
use Rattle.ringcore.proofs.Planned.{plans_counted}
use Rattle.ringcore.specs.Histories.{History, IsPlanned, IsRight, AgreesWith, StepExists, actors_of, opening_of, pool_size, followed_by}
use Rattle.ringcore.specs.Planned.{plans_of, world_rings}

pub after_all-append : (actors : List Actor) (xs ys : List Event) → after_all actors (xs ++ ys) ≡ after_all (after_all actors xs) ys
after_all-append actors [] ys = refl
after_all-append actors (e ∷ xs) ys = after_all-append (after actors e) xs ys

run_append : (plans : List RingPlan) (pool : ℕ) (actors : List Actor) (xs ys : List Event)
    → IsRun plans pool actors xs → IsRun plans pool (after_all actors xs) ys → IsRun plans pool actors (xs ++ ys)
run_append plans pool actors [] ys first then = then
run_append plans pool actors (e ∷ xs) ys first then = (first.0, run_append plans pool (after actors e) xs ys first.1 then)

-- what a right history keeps
pub right_kept : (h : History) → IsRight h → Invariant h.plans (pool_size h) (actors_of h)
right_kept h right =
    run_kept h.plans (pool_size h) (opening_of h) h.events right.plan.rings
    (opening_kept h.plans h.actors h.gifts right.plan.to_actors) right.run

-- a run after a right history makes a right history
pub right_followed : (h : History) (events : List Event) → IsRight h → IsRun h.plans (pool_size h) (actors_of h) events → IsRight (followed_by h events)
right_followed h events right more =
    let run = run_append h.plans (pool_size h) (opening_of h) h.events events right.run more in
    record {
      plan = right.plan;
      run = run;
      sound = from_opening h.plans h.actors h.gifts (h.events ++ events) right.plan.rings right.plan.to_actors run;
      one_span = one_span_each h.plans (pool_size h) (opening_of h) (h.events ++ events) run;
      room = puts_find_room h.plans h.actors h.gifts (h.events ++ events) right.plan run;
    }

-- one step of a world that is what a right history leaves
pub step_followed : (old new : World) (h : History) (actor : ℕ) (step : Step) (reply : Reply)
    → (plans_of new) ≡ (plans_of old)
    → ((pool : ℕ) (actors : List Actor) → AllFitAny (plans_of old) pool → Invariant (plans_of old) pool actors
    → ListsAgree (plans_of old) pool (world_rings old) old.places.items old.members.items actors
    → (reply ≡ reply_to (plans_of old) pool actors actor step)
    × ListsAgree (plans_of old) pool (world_rings new) new.places.items new.members.items (after actors record { actor = actor; step = step; reply = reply }))
    → AgreesWith old h → IsRight h
    → (reply ≡ reply_to h.plans (pool_size h) (actors_of h) actor step)
    × AgreesWith new (followed_by h (record { actor = actor; step = step; reply = reply } ∷ []))
    × IsRight (followed_by h (record { actor = actor; step = step; reply = reply } ∷ []))
step_followed old new h actor step reply same goes agree right =
    let e : Event = record { actor = actor; step = step; reply = reply } in
    let there = subst (λ (ps : List RingPlan). (pool : ℕ) (actors : List Actor) → AllFitAny ps pool → Invariant ps pool actors
    → ListsAgree ps pool (world_rings old) old.places.items old.members.items actors
    → (reply ≡ reply_to ps pool actors actor step)
    × ListsAgree ps pool (world_rings new) new.places.items new.members.items (after actors record { actor = actor; step = step; reply = reply }))
    agree.plans goes in
    let now = there (pool_size h) (actors_of h) right.plan.rings (right_kept h right) agree.lists in (
      now.0,
      record {
        plans = same ∙ agree.plans;
        lists =
            subst (λ (v : List Actor). ListsAgree h.plans (pool_size h) (world_rings new) new.places.items new.members.items v)
            (sym (after_all-append (opening_of h) h.events (e ∷ []))) now.1;
      },
      right_followed h (e ∷ []) right (now.0, tt),
    )

-- a list of steps of a world that is what a right history leaves
pub run_followed : (old new : World) (h : History) (entries : List (ℕ × Step)) (replies : List Reply)
    → (plans_of new) ≡ (plans_of old)
    → ((pool : ℕ) (actors : List Actor) → AllFitAny (plans_of old) pool → Invariant (plans_of old) pool actors
    → ListsAgree (plans_of old) pool (world_rings old) old.places.items old.members.items actors
    → RunsTo (plans_of old) pool actors entries replies [] (world_rings new) new.places.items new.members.items)
    → AgreesWith old h → IsRight h
    → (length replies ≡ length entries) × AgreesWith new (followed_by h (events_of entries replies)) × IsRight (followed_by h (events_of entries replies))
run_followed old new h entries replies same goes agree right =
    let there = subst (λ (ps : List RingPlan). (pool : ℕ) (actors : List Actor) → AllFitAny ps pool → Invariant ps pool actors
    → ListsAgree ps pool (world_rings old) old.places.items old.members.items actors
    → RunsTo ps pool actors entries replies [] (world_rings new) new.places.items new.members.items) agree.plans goes in
    let run = there (pool_size h) (actors_of h) right.plan.rings (right_kept h right) agree.lists in
    let whole : run.done ≡ entries = sym (append-nil run.done) ∙ run.split in
    let ran = subst (λ (d : List (ℕ × Step)). IsRun h.plans (pool_size h) (actors_of h) (events_of d replies)) whole run.right in
    let left =
    subst (λ (d : List (ℕ × Step)). ListsAgree h.plans (pool_size h) (world_rings new) new.places.items new.members.items
    (after_all (actors_of h) (events_of d replies))) whole run.agree in (
      run.count ∙ ap length whole,
      record {
        plans = same ∙ agree.plans;
        lists =
            subst (λ (v : List Actor). ListsAgree h.plans (pool_size h) (world_rings new) new.places.items new.members.items v)
            (sym (after_all-append (opening_of h) h.events (events_of entries replies))) left;
      },
      right_followed h (events_of entries replies) right ran,
    )

-- the number of actors is unchanged
after_length : (actors : List Actor) (e : Event) → length (after actors e) ≡ length actors
unfolding after
after_length actors e = here (slice_get actors e.actor)
  where
    here : (o : Option Actor) → length (one_stepped actors e.actor o e.step e.reply) ≡ length actors
    here None = refl
    here (Some a) = length-set actors e.actor (after_step a e.step e.reply)

after_all_length : (actors : List Actor) (events : List Event) → length (after_all actors events) ≡ length actors
after_all_length actors [] = refl
after_all_length actors (e ∷ events) = after_all_length (after actors e) events ∙ after_length actors e

pub actors_counted : (w : World) (h : History) → AgreesWith w h → vec_len w.members ≡ h.actors
actors_counted w h agree =
    w.members.ok.0 ∙ (agree.lists.spans.member_count ∙ (after_all_length (opening_of h) h.events ∙ length-map-range_with_len _ 0 h.actors))

-- the world has what the plan of its history has
pub knows_planned : (w : World) (h : History) (actor : ℕ) (step : Step) → AgreesWith w h → StepExists w actor step ↔ IsPlanned h actor step
knows_planned w h actor step agree =
    let actors = actors_counted w h agree in
    let rings : vec_len w.rings ≡ length h.plans = plans_counted _ w.rings.items w.rings.ok.0 ∙ ap length agree.plans in (
      (λ is. (subst (λ (n : ℕ). actor < n) actors is.0, subst (λ (n : ℕ). IsOnRing n step) rings is.1)),
      (λ is. (subst (λ (n : ℕ). actor < n) (sym actors) is.0, subst (λ (n : ℕ). IsOnRing n step) (sym rings) is.1)),
    )
