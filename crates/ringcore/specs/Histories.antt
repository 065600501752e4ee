-- A history of a world: its plan, and the events so far; and when a world is what a history leaves
use Rattle.std.specs.Prelude.{ℕ, ◌≡◌, ◌<◌, List, [], ◌++◌, length, vec_len}
use Rattle.geom.specs.declared.plan.RingPlan.{RingPlan}
use Rattle.ringcore_laws.specs.History.{Actor, Event, IsRun, StaysSound, after_all, opening}
use Rattle.ringcore_laws.specs.Refusals.{PutsFindRoom}
use Rattle.ringcore_laws.specs.Runs.{IsPlan, OneSpanEach, history_of}
use Rattle.ringcore.specs.declared.plan.WorldPlan.{WorldPlan}
use Rattle.ringcore.specs.declared.world.World.{World}
use Rattle.ringcore.specs.Agree.{ListsAgree}
use Rattle.ringcore.specs.Runs.{IsOnRing}
use Rattle.ringcore.specs.Runs.{ExistAll}
use Rattle.ringcore_laws.specs.declared.protocol.Step.{Step}
use Rattle.ringcore.specs.Planned.{plans_of, world_rings}

pub record History : Type 0 where
  pub plans : List RingPlan
  pub actors : ℕ
  pub gifts : List ℕ
  pub events : List Event

-- the history of a plan before any event
abbrev pub opened_by : WorldPlan → History
opened_by plan = record { plans = plan.rings.items; actors = plan.actors; gifts = plan.gifts.items; events = [] }

-- the actors at the opening, and after the events
abbrev pub opening_of : History → List Actor
opening_of h = opening h.actors h.gifts

abbrev pub actors_of : History → List Actor
actors_of h = after_all (opening_of h) h.events

-- how many buffers there are
abbrev pub pool_size : History → ℕ
pool_size h = length h.gifts

-- a history with more events
abbrev pub followed_by : History → List Event → History
followed_by h events = record { plans = h.plans; actors = h.actors; gifts = h.gifts; events = h.events ++ events }

-- a right history: of a plan that may be opened; each reply is the one to its step; it is sound before and after each
-- event; and no put into a free ring was answered NoRoom
pub record IsRight (h : History) : Type 0 where
  pub plan : IsPlan h.plans h.actors h.gifts
  pub run : IsRun h.plans (pool_size h) (opening_of h) h.events
  pub sound : StaysSound h.plans (pool_size h) (opening_of h) h.events
  pub one_span : OneSpanEach (opening_of h) h.events
  pub room : PutsFindRoom h.plans h.events

-- the world's queued items, lengths, spans, looks and places of buffers are those that the history gives
pub record AgreesWith (w : World) (h : History) : Type 0 where
  pub plans : plans_of w ≡ h.plans
  pub lists : ListsAgree h.plans (pool_size h) (world_rings w) w.places.items w.members.items (actors_of h)

-- the world has the actor and the ring of a step
abbrev pub StepExists : World → ℕ → Step → Type 0
StepExists w actor step = (actor < vec_len w.members) × IsOnRing (vec_len w.rings) step

abbrev pub StepsExist : World → List (ℕ × Step) → Type 0
StepsExist w entries = ExistAll (vec_len w.members) (vec_len w.rings) entries

-- the plan of a history has the actor and the ring of a step
abbrev pub IsPlanned : History → ℕ → Step → Type 0
IsPlanned h actor step = (actor < h.actors) × IsOnRing (length h.plans) step

-- worlds with the same content
abbrev pub IsUnchanged : World → World → Type 0
IsUnchanged old new =
    (plans_of new ≡ plans_of old) × (world_rings new ≡ world_rings old)
    × (new.places.items ≡ old.places.items) × (new.members.items ≡ old.members.items)

-- the new world is what the old one's history, followed by a prefix of the list, leaves
abbrev pub LeavesBeginning : World → World → List (ℕ × Step) → Type 0
LeavesBeginning old new entries = (h : History) → AgreesWith old h → IsRight h
    → (done rest : List (ℕ × Step)) × (done ++ rest ≡ entries)
    × AgreesWith new (followed_by h (history_of h.plans (pool_size h) (actors_of h) done))
    × IsRight (followed_by h (history_of h.plans (pool_size h) (actors_of h) done))
