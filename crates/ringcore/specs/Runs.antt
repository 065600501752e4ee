-- A run: a list of steps with their replies, and what it leaves
use Rattle.std.specs.Prelude.{ℕ, ◌≡◌, ◌<◌, List, [], ◌∷◌, ◌++◌, length}
use Rattle.geom.specs.declared.plan.RingPlan.{RingPlan}
use Rattle.ringcore_laws.specs.declared.protocol.Step.{Step}
use Rattle.ringcore_laws.specs.declared.protocol.Step.TheVariants.{Look, Room, Reserve, SettlePut, SettleTake, Stash}
use Rattle.ringcore_laws.specs.declared.protocol.Step.TheVariants.{Unstash}
use Rattle.ringcore_laws.specs.declared.protocol.Reply.{Reply}
use Rattle.ringcore_laws.specs.Invariant.{Invariant}
use Rattle.ringcore_laws.specs.History.{Actor, Event, IsRun, after_all}
use Rattle.ringcore_laws.specs.declared.protocol.Place.{Place}
use Rattle.ringcore.specs.declared.ring.Ring.{Ring}
use Rattle.ringcore.specs.declared.member.Member.{Member}
use Rattle.ringcore.specs.Agree.{ListsAgree}

-- whether the ring of a step is below `rings`
abbrev pub IsOnRing : ℕ → Step → Type 0
IsOnRing n (Look ring side) = ring < n
IsOnRing n (Room ring side) = ring < n
IsOnRing n (Reserve ring side how count) = ring < n
IsOnRing n (SettlePut ring items) = ring < n
IsOnRing n (SettleTake ring count) = ring < n
IsOnRing n (Stash b) = Unit {0}
IsOnRing n (Unstash b) = Unit {0}

-- whether the actor and the ring of each entry exist
abbrev pub ExistAll : ℕ → ℕ → List (ℕ × Step) → Type 0
ExistAll members rings [] = Unit {0}
ExistAll members rings (e ∷ entries) = (e.0 < members) × IsOnRing rings e.1 × ExistAll members rings entries

-- the events of steps and their replies
abbrev pub events_of : List (ℕ × Step) → List Reply → List Event
events_of [] replies = []
events_of (e ∷ entries) [] = []
events_of (e ∷ entries) (reply ∷ replies) =
    record { actor = e.0; step = e.1; reply = reply } ∷ events_of entries replies

-- from these actors on, these are the replies to the entries without the rest, and the lists agree with the result
pub record RunsTo (plans : List RingPlan) (pool : ℕ) (actors : List Actor) (entries : List (ℕ × Step))
    (replies : List Reply) (rest : List (ℕ × Step)) (rings : List Ring) (places : List Place)
    (members : List Member) : Type 0 where
  pub done : List (ℕ × Step)
  pub split : done ++ rest ≡ entries
  pub count : length replies ≡ length done
  pub right : IsRun plans pool actors (events_of done replies)
  pub kept : Invariant plans pool (after_all actors (events_of done replies))
  pub agree : ListsAgree plans pool rings places members (after_all actors (events_of done replies))
