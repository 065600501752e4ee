-- A ring that was looked up once
use Rattle.std.specs.Prelude.{◌≡◌, ℕ, ◌<◌, Some, slice_get}
use Rattle.geom.specs.Extent.{range_of}
use Rattle.geom.specs.declared.plan.Mode.{Mode}
use Rattle.geom.specs.declared.plan.Mode.TheVariants.{Hts}
use Rattle.geom.specs.declared.plan.Side.{Side}
use Rattle.geom.specs.Plan.{mode_of}
use Rattle.fabric_laws.specs.Words.{slots_before}
use Rattle.fabric.specs.declared.fabric.Fabric.{Fabric}
use Rattle.fabric.specs.declared.place.Known.{Known}
use Rattle.fabric.specs.declared.place.Place.{Place}
use Rattle.fabric.specs.Hands.{rings_of}

abbrev pub place_ring : Place → ℕ
place_ring p = p.index

abbrev pub place_mode : Place → Side → Mode
place_mode p side = mode_of p.shape.plan side

-- what a caller knows of a side is so
abbrev pub IsKnown : Place → Side → Known → Type 0
IsKnown p side known = (known.mode ≡ place_mode p side) × (known.free ≡ p.shape.plan.free)

-- it says of the ring of its number what the fabric's plan does
abbrev pub IsPlaceOf : {T : Type 0} {S : Type 0} {N : ℕ} → Fabric T N S → Place → Type 0
IsPlaceOf f p = (slice_get (rings_of f) p.index ≡ Some p.shape.plan) × (p.shape.base ≡ slots_before (rings_of f) p.index)

-- the word of a side, if it is head/tail-sync, has room for the count of as many positions
abbrev pub HasCounts : Place → Side → ℕ → Type 0
HasCounts p side most = place_mode p side ≡ Hts → most < range_of p.shape.plan.geometry
