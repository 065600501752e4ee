-- A run continues by one step
use Rattle.std.proofs.Common.{ℕ, ◌+◌, ◌≡◌, ◌∙◌, List, [], ◌∷◌, ◌++◌, length, refl, ap, sym, subst, arith}
use Rattle.std.proofs.lemmas.List.{append_assoc, length-append}
use Rattle.geom.specs.declared.plan.RingPlan.{RingPlan}
use Rattle.geom.specs.Fit.{AllFitAny}
use Rattle.ringcore_laws.specs.declared.protocol.Step.{Step}
use Rattle.ringcore_laws.specs.declared.protocol.Reply.{Reply}
use Rattle.ringcore_laws.specs.Invariant.{Invariant}
use Rattle.ringcore_laws.specs.History.{Actor, Event, IsRun, after, after_all, reply_to}
use Rattle.ringcore_laws.proofs.HistoryLaws.{event_kept}
use Rattle.ringcore_laws.specs.declared.protocol.Place.{Place}
use Rattle.ringcore.specs.declared.ring.Ring.{Ring}
use Rattle.ringcore.specs.declared.member.Member.{Member}
use Rattle.std.specs.Prelude.{Result, Ok, Err, OnErr}
use Rattle.ringcore_laws.specs.Runs.{history_of}
use Rattle.ringcore.specs.declared.world.World.{World}
use Rattle.ringcore.specs.Agree.{ListsAgree}
use Rattle.ringcore.specs.Histories.{IsUnchanged, LeavesBeginning, actors_of, opening_of, pool_size}
use Rattle.ringcore.proofs.Rightness.{after_all-append, right_followed, right_kept}
use Rattle.ringcore.proofs.Unchanged.{same_agree}
use Rattle.ringcore.specs.Runs.{events_of, RunsTo}
use Rattle.ringcore.specs.Planned.{plans_of, world_rings}

events_more : (done : List (ℕ × Step)) (replies : List Reply) (e : ℕ × Step) (r : Reply) → length replies ≡ length done
    → events_of (done ++ e ∷ []) (replies ++ r ∷ []) ≡ events_of done replies ++ record { actor = e.0; step = e.1; reply = r } ∷ []
events_more [] [] e r h = refl
events_more [] (x ∷ xs) e r h = absurd (omega arith)
events_more (d ∷ ds) [] e r h = absurd (omega arith)
events_more (d ∷ ds) (x ∷ xs) e r h = ap (λ v. record { actor = d.0; step = d.1; reply = x } ∷ v) (events_more ds xs e r (omega arith))

after_more : (actors : List Actor) (events : List Event) (e : Event) → after_all actors (events ++ e ∷ []) ≡ after (after_all actors events) e
after_more actors [] e = refl
after_more actors (x ∷ xs) e = after_more (after actors x) xs e

replies_more : (plans : List RingPlan) (pool : ℕ) (actors : List Actor) (events : List Event) (e : Event) → IsRun plans pool actors events
    → e.reply ≡ reply_to plans pool (after_all actors events) e.actor e.step → IsRun plans pool actors (events ++ e ∷ [])
replies_more plans pool actors [] e right h = (h, tt)
replies_more plans pool actors (x ∷ xs) e right h = (right.0, replies_more plans pool (after actors x) xs e right.1 h)

pub run_more : (plans : List RingPlan) (pool : ℕ) (actors : List Actor) (entries : List (ℕ × Step)) (replies : List Reply) (rest : List (ℕ × Step))
    (rings new_rings : List Ring) (places new_places : List Place) (members new_members : List Member) (i : ℕ) (step : Step) (r : Reply)
    → AllFitAny plans pool → (run : RunsTo plans pool actors entries replies ((i, step) ∷ rest) rings places members)
    → ((now : List Actor) → Invariant plans pool now → ListsAgree plans pool rings places members now → (r ≡ reply_to plans pool now i step)
    × ListsAgree plans pool new_rings new_places new_members (after now record { actor = i; step = step; reply = r }))
    → RunsTo plans pool actors entries (replies ++ r ∷ []) rest new_rings new_places new_members
run_more plans pool actors entries replies rest rings new_rings places new_places members new_members i step r fits run goes = record {
  done = run.done ++ (i, step) ∷ [];
  split = append_assoc run.done ((i, step) ∷ []) rest ∙ run.split;
  count = length-append replies (r ∷ []) ∙ (ap (λ n. n + 1) run.count ∙ sym (length-append run.done ((i, step) ∷ [])));
  right = subst (λ (v : List Event). IsRun plans pool actors v) (sym events) (replies_more plans pool actors (events_of run.done replies) e run.right now.0);
  kept = subst (λ (v : List Actor). Invariant plans pool v) (sym left)
      (event_kept plans pool (after_all actors (events_of run.done replies)) e fits now.0 run.kept);
  agree = subst (λ (v : List Actor). ListsAgree plans pool new_rings new_places new_members v) (sym left) now.1;
}
  where
    e : Event
    e = record { actor = i; step = step; reply = r }

    now : (r ≡ reply_to plans pool (after_all actors (events_of run.done replies)) i step)
        × ListsAgree plans pool new_rings new_places new_members (after (after_all actors (events_of run.done replies)) record
        { actor = i; step = step; reply = r })
    now = goes (after_all actors (events_of run.done replies)) run.kept run.agree

    events : events_of (run.done ++ (i, step) ∷ []) (replies ++ r ∷ []) ≡ events_of run.done replies ++ record { actor = i; step = step; reply = r } ∷ []
    events = events_more run.done replies (i, step) r run.count

    left : after_all actors (events_of (run.done ++ (i, step) ∷ []) (replies ++ r ∷ []))
        ≡ after (after_all actors (events_of run.done replies)) record { actor = i; step = step; reply = r }
    left = ap (after_all actors) events ∙ after_more actors (events_of run.done replies) e

pub run_starts : (plans : List RingPlan) (pool : ℕ) (actors : List Actor) (entries : List (ℕ × Step)) (rings : List Ring) (places : List Place)
    (members : List Member)
    → Invariant plans pool actors → ListsAgree plans pool rings places members actors → RunsTo plans pool actors entries [] entries rings places members
run_starts plans pool actors entries rings places members k agree = record { done = []; split = refl; count = refl; right = tt; kept = k; agree = agree }

-- one more step of a world in the middle of a run
pub run_goes_on : (plans : List RingPlan) (old new : World) (pool : ℕ) (actors : List Actor) (entries : List (ℕ × Step)) (replies : List Reply)
    (left rest : List (ℕ × Step)) (i : ℕ) (step : Step) (r : Reply)
    → (plans_of old) ≡ plans → left ≡ (i, step) ∷ rest
    → ((pool : ℕ) (now : List Actor) → AllFitAny (plans_of old) pool → Invariant (plans_of old) pool now
    → ListsAgree (plans_of old) pool (world_rings old) old.places.items old.members.items now
    → (r ≡ reply_to (plans_of old) pool now i step)
    × ListsAgree (plans_of old) pool (world_rings new) new.places.items new.members.items (after now record { actor = i; step = step; reply = r }))
    → AllFitAny plans pool → RunsTo plans pool actors entries replies left (world_rings old) old.places.items old.members.items
    → RunsTo plans pool actors entries (replies ++ r ∷ []) rest (world_rings new) new.places.items new.members.items
run_goes_on plans old new pool actors entries replies left rest i step r same first goes fits run =
    let there = subst (λ (ps : List RingPlan). (pool : ℕ) (now : List Actor) → AllFitAny ps pool → Invariant ps pool now
    → ListsAgree ps pool (world_rings old) old.places.items old.members.items now
    → (r ≡ reply_to ps pool now i step)
    × ListsAgree ps pool (world_rings new) new.places.items new.members.items (after now record { actor = i; step = step; reply = r })) same goes in
    run_more plans pool actors entries replies rest (world_rings old) (world_rings new) old.places.items new.places.items old.members.items new.members.items
    i step r fits
    (subst (λ (v : List (ℕ × Step)). RunsTo plans pool actors entries replies v (world_rings old) old.places.items old.members.items) first run)
    (λ now kept agrees. there pool now fits kept agrees)

-- the same run, when the lists differ only in the room that was made in them
pub run_unchanged : (plans : List RingPlan) (old new : World) (pool : ℕ) (actors : List Actor) (entries : List (ℕ × Step)) (replies : List Reply)
    (rest : List (ℕ × Step)) → IsUnchanged old new → RunsTo plans pool actors entries replies rest (world_rings old) old.places.items old.members.items
    → RunsTo plans pool actors entries replies rest (world_rings new) new.places.items new.members.items
run_unchanged plans old new pool actors entries replies rest same run = record {
  done = run.done;
  split = run.split;
  count = run.count;
  right = run.right;
  kept = run.kept;
  agree = same_agree plans pool (world_rings old) (world_rings new) old.places.items new.places.items old.members.items new.members.items _
      (same.1, same.2, same.3) run.agree;
}

-- what holds at an Err
pub on_err_of : {T E P : Type 0} (r : Result T E) → P → OnErr r P
on_err_of (Ok x) p = tt
on_err_of (Err e) p = p

-- the events of a run are the history of its steps
pub events_are : (plans : List RingPlan) (pool : ℕ) (actors : List Actor) (done : List (ℕ × Step)) (replies : List Reply)
    → length replies ≡ length done → IsRun plans pool actors (events_of done replies) → events_of done replies ≡ history_of plans pool actors done
events_are plans pool actors [] [] same run = refl
events_are plans pool actors [] (r ∷ replies) same run = refl
events_are plans pool actors (s ∷ done) [] same run = absurd (omega arith)
events_are plans pool actors (s ∷ done) (r ∷ replies) same run =
    let e : Event = record { actor = s.0; step = s.1; reply = r } in
    let right : e ≡ record { actor = s.0; step = s.1; reply = reply_to plans pool actors s.0 s.1 } =
    ap (λ (v : Reply). record { actor = s.0; step = s.1; reply = v }) run.0 in
    ap (λ v. e ∷ v) (events_are plans pool (after actors e) done replies (omega arith) run.1)
    ∙ ap (λ (v : Event). v ∷ history_of plans pool (after actors v) done) right

-- a list of steps that was not done to its end, of a world that is what a right history leaves
pub beginning_followed : (old new : World) (entries : List (ℕ × Step)) → (plans_of new) ≡ (plans_of old)
    → ((pool : ℕ) (actors : List Actor) → AllFitAny (plans_of old) pool → Invariant (plans_of old) pool actors
    → ListsAgree (plans_of old) pool (world_rings old) old.places.items old.members.items actors
    → (replies : List Reply) × (rest : List (ℕ × Step))
    × RunsTo (plans_of old) pool actors entries replies rest (world_rings new) new.places.items new.members.items)
    → LeavesBeginning old new entries
beginning_followed old new entries same goes h agree right =
    let there = subst (λ (ps : List RingPlan). (pool : ℕ) (actors : List Actor) → AllFitAny ps pool → Invariant ps pool actors
    → ListsAgree ps pool (world_rings old) old.places.items old.members.items actors
    → (replies : List Reply) × (rest : List (ℕ × Step))
    × RunsTo ps pool actors entries replies rest (world_rings new) new.places.items new.members.items) agree.plans goes in
    let found = there (pool_size h) (actors_of h) right.plan.rings (right_kept h right) agree.lists in
    let replies = found.0 in
    let run = found.2 in
    let events = events_are h.plans (pool_size h) (actors_of h) run.done replies run.count run.right in
    let ran = subst (λ (es : List Event). IsRun h.plans (pool_size h) (actors_of h) es) events run.right in
    let left = subst (λ (es : List Event). ListsAgree h.plans (pool_size h) (world_rings new) new.places.items new.members.items
    (after_all (actors_of h) es)) events run.agree in
    let more = history_of h.plans (pool_size h) (actors_of h) run.done in (
      run.done,
      found.1,
      run.split,
      record {
        plans = same ∙ agree.plans;
        lists =
            subst (λ (v : List Actor). ListsAgree h.plans (pool_size h) (world_rings new) new.places.items new.members.items v)
            (sym (after_all-append (opening_of h) h.events more)) left;
      },
      right_followed h more right ran,
    )
