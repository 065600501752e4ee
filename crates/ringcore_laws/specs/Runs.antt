-- Runs of the machine: the history of a list of steps, and what the headline states about it
use Rattle.std.specs.Prelude.{ℕ, ◌<◌, ◌≤◌, ◌≡◌, Bool, true, false, List, [], ◌∷◌, map, length, slice_get, slice_index}
use Rattle.std.specs.Prelude.{Some, None}
use Rattle.geom.specs.Fit.{AllFitAny}
use Rattle.geom.specs.declared.plan.RingPlan.{RingPlan}
use Rattle.ringcore_laws.specs.declared.protocol.Step.{Step}
use Rattle.ringcore_laws.specs.declared.protocol.Reply.{Reply}
use Rattle.ringcore_laws.specs.declared.protocol.Reply.TheVariants.{Done, Granted}
use Rattle.ringcore_laws.specs.History.{Actor, Event, reply_to, after}

-- a plan that may be opened: gift b names the actor that holds buffer b at the opening
pub record IsPlan (plans : List RingPlan) (actors : ℕ) (gifts : List ℕ) : Type 0 where
  pub some_ring : 0 < length plans
  pub few_rings : length plans ≤ 64
  pub some_actor : 0 < actors
  pub few_actors : actors ≤ 64
  pub few_buffers : length gifts ≤ 65536
  pub to_actors : (b : ℕ) → b < length gifts → slice_index gifts b < actors
  -- each ring may have its size, and all buffers fit into each free ring
  pub rings : AllFitAny plans (length gifts)

-- the history of a list of steps, each an actor and what it does: each step with the reply to it
abbrev pub history_of : List RingPlan → ℕ → List Actor → List (ℕ × Step) → List Event
history_of plans pool actors [] = []
history_of plans pool actors (s ∷ steps) =
    let e : Event = record { actor = s.0; step = s.1; reply = reply_to plans pool actors s.0 s.1 } in
    e ∷ history_of plans pool (after actors e) steps

-- the steps of events, each with its actor
abbrev pub steps_of : List Event → List (ℕ × Step)
steps_of events = map (λ e. (e.actor, e.step)) events

abbrev pub is_grant : Reply → Bool
is_grant (Granted start count left) = true
is_grant reply = false

abbrev pub is_done : Reply → Bool
is_done (Done count items) = true
is_done reply = false

-- each span is granted to an actor that has none open
abbrev pub OneSpanEach : List Actor → List Event → Type 0
OneSpanEach actors [] = Unit {0}
OneSpanEach actors (e ∷ events) =
    (is_grant e.reply ≡ true → (a : Actor) → slice_get actors e.actor ≡ Some a → a.party.span ≡ None)
    × OneSpanEach (after actors e) events
