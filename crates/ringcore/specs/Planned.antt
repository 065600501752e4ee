-- The rings of a world, each with its plan
use Rattle.std.specs.Prelude.{List, map}
use Rattle.geom.specs.declared.plan.RingPlan.{RingPlan}
use Rattle.ringcore.specs.declared.ring.PlannedRing.{PlannedRing}
use Rattle.ringcore.specs.declared.ring.Ring.{Ring}
use Rattle.ringcore.specs.declared.world.World.{World}

abbrev pub plans_in : List PlannedRing → List RingPlan
plans_in rings = map (λ r. r.plan) rings

abbrev pub rings_in : List PlannedRing → List Ring
rings_in rings = map (λ r. r.ring) rings

abbrev pub plans_of : World → List RingPlan
plans_of w = plans_in w.rings.items

abbrev pub world_rings : World → List Ring
world_rings w = rings_in w.rings.items
