-- How many items are queued on a ring, or how many more it takes, as a call returns it
use Rattle.std.specs.Prelude.{◌≡◌, ℕ, ◌-◌, ◌^◌, List, Ok, min}
use Rattle.geom.specs.declared.plan.Side.{Side}
use Rattle.geom.specs.declared.plan.Side.TheVariants.{Put, Take}
use Rattle.fabric_laws.specs.Changes.{loaded}
use Rattle.fabric_laws.specs.declared.view.View.{View}
use Rattle.fabric.specs.declared.fabric.Fabric.{Fabric}
use Rattle.fabric.specs.Counts.{CountsQueued}
use Rattle.fabric.specs.Hands.{OnRing}
use Rattle.capi.specs.Codes.{Outcome}

-- of a ring that takes so many items and has so many: how many are queued, or how many more it takes
abbrev pub queued_or_room : Side → (capacity count : ℕ) → ℕ
queued_or_room Take capacity count = count
queued_or_room Put capacity count = capacity - count

-- a look at a ring for one of its sides, by two loads: 32 bits of what it finds
abbrev pub Looks : {T : Type 0} {S : Type 0} {N : ℕ} → (T → List ℕ) → Fabric T N S → ℕ → Side → View T → View T → Outcome
    → Type 0
Looks tags f ring side v w outcome = (w ≡ loaded (loaded v)) × (count : ℕ) × OnRing f ring
    (λ plan. CountsQueued tags ring plan v count
    × (outcome ≡ Ok (min (queued_or_room side plan.geometry.capacity count) (2 ^ 32 - 1))))
