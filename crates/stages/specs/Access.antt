-- What a contract sees of a thread's access to the rings.
use Rattle.std.specs.Prelude.{◌≡◌, ◌↔◌, ℕ, List, Option, Some}
use Rattle.burst.specs.declared.tagged.Tagged.{Ghosts}
use Rattle.fabric.specs.declared.stored.Stored.{Ghosts as StoredGhosts}
use Rattle.fabric.specs.declared.fabric.Fabric.{Fabric}
use Rattle.fabric.specs.declared.hand.Hand.{Hand}
use Rattle.fabric.specs.declared.hand.StartFault.TheVariants as start
use Rattle.fabric.specs.Hands.{IsHandOf, OnRing, view}
use Rattle.ringapi.specs.declared.answers.PutAnswer.TheVariants as put
use Rattle.ringapi.specs.declared.answers.Refusal.{Refusal}
use Rattle.ringapi.specs.declared.answers.Refusal.TheVariants.{Start}
use Rattle.ringapi.specs.declared.answers.TakeAnswer.TheVariants as taken
use Rattle.ringapi.specs.Puts.{PutHasTold}
use Rattle.ringapi.specs.Takes.{TakeHasTold}
use Rattle.ringapi.specs.Views.{by_burst}
use Rattle.stages.specs.declared.stage_fault.StageFault.{StageFault}
use Rattle.stages.specs.declared.stage_fault.StageFault.TheVariants.{Worn}

module _ {T : Type 0} {S : Type 0} {G : Ghosts T} {H : StoredGhosts S T} {N : ℕ} where
  -- the hand in this place comes from this fabric
  abbrev pub IsOf : Fabric T N S → Option (Hand T S G H) → Type 0
  IsOf f place = (h : Hand T S G H) → place ≡ Some h → IsHandOf f h

-- Why a thread can't continue: the result of the last call, returned as Worn exactly if it was Worn
module _ {T : Type 0} {S : Type 0} {G : Ghosts T} {H : StoredGhosts S T} {N : ℕ} (tags : T → List ℕ) (f : Fabric T N S) where
  -- the last of some puts; its hand is in the place then
  abbrev pub GivesUp : ℕ → Option (Hand T S G H) → List T → StageFault → Type 0
  GivesUp ring place rest e = (h k : Hand T S G H) × (place ≡ Some k) × (list : List T) × (why : Refusal)
      × (why ≡ Start start.Worn ↔ e ≡ Worn)
      × OnRing f ring (λ plan. PutHasTold {N = N} tags by_burst ring plan (view h) list (put.Refused k why) rest)

  -- a take of at most n packets
  abbrev pub TakesNone : ℕ → ℕ → Option (Hand T S G H) → List T → StageFault → Type 0
  TakesNone ring n place items e = (h k : Hand T S G H) × (place ≡ Some k) × (e ≡ Worn)
      × OnRing f ring (λ plan. TakeHasTold {N = N} tags by_burst n ring plan (view h) (taken.Refused k start.Worn) items)
