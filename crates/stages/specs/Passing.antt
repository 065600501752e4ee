-- What a hand settled on the rings of a run between two moments.
use Rattle.std.specs.Prelude.{◌≡◌, ℕ, Bool, true, false, if◌then◌else◌, map, List, [], ◌∷◌, ◌++◌, length, slice_get}
use Rattle.std.specs.Prelude.{Some}
use Rattle.geom.specs.declared.plan.Mode.{Mode}
use Rattle.geom.specs.declared.plan.Mode.TheVariants.{Hts, Multi}
use Rattle.geom.specs.declared.plan.RingPlan.{RingPlan}
use Rattle.geom.specs.declared.plan.Side.{Side}
use Rattle.geom.specs.declared.plan.Side.TheVariants.{Put, Take}
use Rattle.ringapi.specs.Holdings.{IsFreeRing}
use Rattle.ringcore_laws.specs.declared.party.Settled.{Settled}
use Rattle.ringcore_laws.specs.Party.{is_on}

-- The rings of a run: of segments not in use; of packets before their verdict, at which workers peek; and of packets
-- after it; a packet has any number of segments
pub record AreRings (plans : List RingPlan) : Type 0 where
  pub many : length plans ≡ 3
  pub free : IsFreeRing plans 0
  pub peeked : (plan : RingPlan) → slice_get plans 1 ≡ Some plan → plan.take ≡ Hts
  pub unjudged : (plan : RingPlan) → slice_get plans 1 ≡ Some plan → plan.free ≡ false
  pub mixed : (plan : RingPlan) → slice_get plans 2 ≡ Some plan → plan.free ≡ false

-- what a ring is planned with: its capacity, the modes of its sides, and whether it holds free segments
abbrev pub found_room_of : RingPlan → ℕ × (Mode × (Mode × Bool))
found_room_of plan = (plan.geometry.capacity, (plan.put, (plan.take, plan.free)))

-- one for all segments, and two of the same capacity
abbrev pub AreAsked : ℕ → ℕ → List RingPlan → Type 0
AreAsked buffers ring plans = map found_room_of plans
    ≡ (buffers, (Multi, (Multi, true))) ∷ (ring, (Multi, (Hts, false))) ∷ (ring, (Multi, (Multi, false))) ∷ []

module _ {T : Type 0} where
  -- The items that a hand settled on a side of a ring, in the order in which it settled them: its settled spans are
  -- listed newest first
  abbrev pub settled_on : ℕ → Side → List (Settled T) → List T
  settled_on ring side [] = []
  settled_on ring side (s ∷ older) =
      settled_on ring side older ++ (if is_on s.ring s.side ring side then s.items else [])

  -- a hand put these items on a ring, and took nothing
  pub record Puts (ring : ℕ) (before after : List (Settled T)) (items : List T) : Type 0 where
    pub puts : settled_on ring Put after ≡ settled_on ring Put before ++ items
    pub takes : (r : ℕ) → settled_on r Take after ≡ settled_on r Take before

  -- a hand took these items from the input ring, and put those on the output ring
  pub record Passes (before after : List (Settled T)) (taken sent : List T) : Type 0 where
    pub takes : settled_on 1 Take after ≡ settled_on 1 Take before ++ taken
    pub puts : settled_on 2 Put after ≡ settled_on 2 Put before ++ sent
