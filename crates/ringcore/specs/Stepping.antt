-- What a step finds in a world, and what it leaves there
use Rattle.std.specs.Prelude.{ℕ, ◌≡◌, List, slice_get, slice_set, vec_len, Some}
use Rattle.geom.specs.declared.plan.RingPlan.{RingPlan}
use Rattle.geom.specs.Fit.{AllFitAny}
use Rattle.ringcore_laws.specs.declared.protocol.Step.{Step}
use Rattle.ringcore_laws.specs.declared.protocol.Reply.{Reply}
use Rattle.ringcore_laws.specs.Invariant.{Invariant}
use Rattle.ringcore_laws.specs.History.{Actor, after, reply_to}
use Rattle.ringcore.specs.declared.ring.Ring.{Ring}
use Rattle.ringcore.specs.declared.member.Member.{Member}
use Rattle.ringcore.specs.declared.world.World.{World}
use Rattle.ringcore.specs.Agree.{ListsAgree}
use Rattle.ringcore.specs.Runs.{RunsTo}
use Rattle.ringcore.specs.Planned.{plans_of, world_rings}

-- there are as many actors and rings as before
abbrev pub SameCounts : World → World → Type 0
SameCounts old new =
    (vec_len new.members ≡ vec_len old.members) × (vec_len new.rings ≡ vec_len old.rings)

abbrev pub SamePlans : World → World → Type 0
SamePlans old new = plans_of new ≡ plans_of old

abbrev pub SameRings : World → World → Type 0
SameRings old new = (world_rings new ≡ world_rings old) × SamePlans old new

abbrev pub SameMembers : World → World → Type 0
SameMembers old new = new.members.items ≡ old.members.items

abbrev pub SamePlaces : World → World → Type 0
SamePlaces old new = new.places.items ≡ old.places.items

-- what holds for the actor with this number, for the ring with this number, for both and the ring's plan
abbrev pub MemberAt : World → ℕ → (Member → Type 0) → Type 0
MemberAt w actor P = (m : Member) → slice_get w.members.items actor ≡ Some m → P m

abbrev pub RingAt : World → ℕ → (Ring → Type 0) → Type 0
RingAt w ring P = (r : Ring) → slice_get (world_rings w) ring ≡ Some r → P r

abbrev pub FoundAt : World → ℕ → ℕ → (Member → RingPlan → Ring → Type 0) → Type 0
FoundAt w actor ring P =
    (m : Member) (plan : RingPlan) (r : Ring) → slice_get w.members.items actor ≡ Some m
    → slice_get (plans_of w) ring ≡ Some plan
    → slice_get (world_rings w) ring ≡ Some r → P m plan r

-- the actor with this number is now this one, and nobody else changed; the same for a ring
abbrev pub SetMember : World → World → ℕ → Member → Type 0
SetMember old new actor m = new.members.items ≡ slice_set old.members.items actor m

abbrev pub SetRing : World → World → ℕ → Ring → Type 0
SetRing old new ring r = world_rings new ≡ slice_set (world_rings old) ring r

abbrev pub BothSet : World → World → ℕ → ℕ → (Member → Ring → Type 0) → Type 0
BothSet old new actor ring P = (n : Member) × (y : Ring) × SetMember old new actor n × SetRing old new ring y × P n y

-- if the lists agree with actors that keep soundness, the reply is the one to the step, and they agree with the actors
-- after it
abbrev pub Answers : World → World → ℕ → Step → Reply → Type 0
Answers old new actor step reply =
    (pool : ℕ) (actors : List Actor) → AllFitAny (plans_of old) pool → Invariant (plans_of old) pool actors
    → ListsAgree (plans_of old) pool (world_rings old) old.places.items old.members.items actors
    → (reply ≡ reply_to (plans_of old) pool actors actor step)
    × ListsAgree (plans_of old) pool (world_rings new) new.places.items new.members.items
    (after actors record { actor = actor; step = step; reply = reply })

-- the same for entries with these replies, without the rest
abbrev pub AnswersAll : World → World → List (ℕ × Step) → List Reply → List (ℕ × Step) → Type 0
AnswersAll old new entries replies rest =
    (pool : ℕ) (actors : List Actor) → AllFitAny (plans_of old) pool → Invariant (plans_of old) pool actors
    → ListsAgree (plans_of old) pool (world_rings old) old.places.items old.members.items actors
    → RunsTo (plans_of old) pool actors entries replies rest (world_rings new) new.places.items new.members.items

-- the same for some prefix
abbrev pub AnswersSome : World → World → List (ℕ × Step) → Type 0
AnswersSome old new entries =
    (pool : ℕ) (actors : List Actor) → AllFitAny (plans_of old) pool → Invariant (plans_of old) pool actors
    → ListsAgree (plans_of old) pool (world_rings old) old.places.items old.members.items actors
    → (replies : List Reply) × (rest : List (ℕ × Step))
    × RunsTo (plans_of old) pool actors entries replies rest (world_rings new) new.places.items new.members.items
