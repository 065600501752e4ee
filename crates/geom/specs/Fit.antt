-- Rings used with a given number of buffers, by spans of at most a given length
use Rattle.std.specs.Prelude.{ℕ, true, ◌-◌, ◌^◌, ◌≡◌, ◌<◌, ◌≤◌, List, slice_get, Some}
use Rattle.geom.specs.Extent.{IsExtent, range_of}
use Rattle.geom.specs.declared.plan.Mode.TheVariants.{Hts}
use Rattle.geom.specs.declared.plan.Side.{Side}
use Rattle.geom.specs.declared.plan.RingPlan.{RingPlan}
use Rattle.geom.specs.Plan.{mode_of}

-- a ring used with this many buffers, by spans of at most this many positions: all buffers fit if it is a free ring, and
-- the word of a head/tail-sync side has room for the count of each span
pub record Fits (plan : RingPlan) (buffers longest : ℕ) : Type 0 where
  pub extent : IsExtent plan.geometry
  pub free_rings : plan.free ≡ true → buffers ≤ plan.geometry.capacity
  pub counts : (side : Side) → mode_of plan side ≡ Hts → longest < range_of plan.geometry

-- the same of each ring
abbrev pub AllFit : List RingPlan → (buffers longest : ℕ) → Type 0
AllFit rings buffers longest = (r : ℕ) (plan : RingPlan) → slice_get rings r ≡ Some plan → Fits plan buffers longest

-- the same by spans of any length: no ring holds more than this many items
abbrev pub FitsAny : RingPlan → (buffers : ℕ) → Type 0
FitsAny plan buffers = Fits plan buffers (2 ^ 20 - 1)

abbrev pub AllFitAny : List RingPlan → (buffers : ℕ) → Type 0
AllFitAny rings buffers = AllFit rings buffers (2 ^ 20 - 1)
