-- What an advance of an open span leaves open, and why it is refused
use Rattle.std.specs.Prelude.{◌≡◌, ℕ, ◌+◌, ◌-◌, ◌<◌, ◌≤◌, List}
use Rattle.geom.specs.declared.plan.RingPlan.{RingPlan}
use Rattle.fabric_laws.specs.declared.view.View.{View}
use Rattle.fabric.specs.declared.hand.SettleFault.{SettleFault}
use Rattle.fabric.specs.declared.hand.SettleFault.TheVariants.{BadCount, NotYet, NotYours}
use Rattle.fabric.specs.declared.hand.in_place.Reserved.{Reserved}
use Rattle.fabric.specs.declared.ring.Positions.{Positions}
use Rattle.fabric.specs.Settles.{AreNotYours}

-- what stays open of a span when its first k positions are settled
abbrev pub IsRest : ℕ → Positions → Positions → Type 0
IsRest k range rest =
    (rest.start ≡ range.start + k) × (rest.count ≡ range.count - k) × (rest.left ≡ range.left)

abbrev pub IsRestOf : ℕ → Reserved → Reserved → Type 0
IsRestOf k r rest = (rest.ring ≡ r.ring) × IsRest k r.range rest.range

module _ {T : Type 0} (tags : T → List ℕ) where
  -- nothing was settled, for this reason, in the order of the tests: k positions of a put span of `count`, with these
  -- items
  abbrev pub RefusesAdvance : RingPlan → ℕ → ℕ → List T → View T → View T → SettleFault → Type 0
  RefusesAdvance plan k count items v w BadCount = (count ≤ k) × (w ≡ v)
  RefusesAdvance plan k count items v w NotYours = (k < count) × AreNotYours tags plan v items × (w ≡ v)
  RefusesAdvance plan k count items v w (NotYet x) = ⊥
