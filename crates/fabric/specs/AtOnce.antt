-- Reserving one position at once, without a look at the own word
use Rattle.std.specs.Prelude.{◌≡◌, ℕ, ◌%◌, ◌≤◌, ◌⊎◌, List, None, Some, Option, slice_get}
use Rattle.atomic_table.specs.declared.shared.Seat.{Seat}
use Rattle.geom.specs.declared.plan.How.TheVariants.{Bulk}
use Rattle.geom.specs.declared.plan.Mode.TheVariants.{Hts}
use Rattle.geom.specs.declared.plan.RingPlan.{RingPlan}
use Rattle.geom.specs.declared.plan.Side.{Side}
use Rattle.geom.specs.Extent.{range_of}
use Rattle.geom.specs.Plan.{mode_of}
use Rattle.ringcore_laws.specs.declared.protocol.Observed.{Observed}
use Rattle.ringcore_laws.specs.History.{position_of, room_by_look}
use Rattle.fabric_laws.specs.declared.view.View.{View}
use Rattle.fabric_laws.specs.Changes.{loaded}
use Rattle.fabric_laws.specs.Words.{own_at}
use Rattle.fabric.specs.declared.ring.Positions.{Positions}
use Rattle.fabric.specs.declared.ring.Ring.{Ring}
use Rattle.fabric.specs.declared.hand.recent.Recent.{Recent}
use Rattle.fabric.specs.OpenSpans.{HasStarted}
use Rattle.fabric.specs.Rings.{HasReserved}
use Rattle.fabric.specs.Starts.{Found}
use Rattle.fabric.specs.Views.{HasFoundRoom}

-- the word of a last look, and how far the other side was settled by the question for room after it
abbrev pub word_in : Option Observed → ℕ
word_in None = 0
word_in (Some o) = o.looked_at

abbrev pub tail_of : Option ℕ → ℕ
tail_of None = 0
tail_of (Some t) = t

abbrev pub tail_in : Option Observed → ℕ
tail_in None = 0
tail_in (Some o) = tail_of o.tail_seen

module _ {T : Type 0} where
  -- the last question for room was one of this side
  abbrev pub FoundRoomLast : ℕ → Side → View T → Type 0
  FoundRoomLast ring side v = v.observed
      ≡ Some record { ring = ring; side = side; looked_at = word_in v.observed; tail_seen = Some (tail_in v.observed) }

  -- what a hand remembers of a side is so: it was there when it last asked for room, and that leaves as many positions;
  -- the word shows no reservation
  abbrev pub IsRecent : Recent → View T → Type 0
  IsRecent r v = (ring : ℕ) (side : Side) (plan : RingPlan) → r.own ≡ own_at ring side → slice_get v.plans ring ≡ Some plan
      → FoundRoomLast ring side v
      × (r.left ≤ room_by_look side plan.geometry.capacity (position_of plan.geometry (mode_of plan side) r.word) (tail_in v.observed))
      × (mode_of plan side ≡ Hts → r.word % range_of plan.geometry ≡ 0)

  -- the same view, but for one more load
  abbrev pub IsLoaded : View T → View T → Type 0
  IsLoaded v w = (w ≡ v) ⊎ (w ≡ loaded v)

module _ {T : Type 0} {N : ℕ} {S : Type 0} (tags : T → List ℕ) where
  -- at one moment the hand looked at a side, found this word, saw how far the other side was settled, and reserved one
  -- position
  pub record HasReservedOne (r : Ring T N S) (side : Side) (word : ℕ) (s t : Seat (Option T) (View T)) : Type 0 where
    pub tail : ℕ
    pub seen : View T
    pub found : Found tags r.index side r.shape.now.plan word tail s.me.0 seen
    pub more : (n : ℕ) → HasFoundRoom r.index side n s.me.0 → n ≤ tail
    pub reserved : HasReserved tags r side
        (position_of r.shape.now.plan.geometry (mode_of r.shape.now.plan side) word) 1 (record s { me = (seen, s.me.1) }) t

  -- `HasStarted` for one position, whatever is told of how many more were free, or queued
  abbrev pub HasStartedOne : ℕ → Side → Ring T N S → View T → Seat (Option T) (View T) → Positions → Type 0
  HasStartedOne most side r v s range =
      (left : ℕ) × HasStarted tags most Bulk 1 side r v s (record range { left = left })
