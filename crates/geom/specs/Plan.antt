-- The plan of a ring, by side, and how much of a request is granted
use Rattle.std.specs.Prelude.{ℕ, nat_le, min, if◌then◌else◌}
use Rattle.geom.specs.declared.plan.How.{How}
use Rattle.geom.specs.declared.plan.How.TheVariants.{Bulk, Burst}
use Rattle.geom.specs.declared.plan.Mode.{Mode}
use Rattle.geom.specs.declared.plan.Side.{Side}
use Rattle.geom.specs.declared.plan.Side.TheVariants.{Put, Take}
use Rattle.geom.specs.declared.plan.RingPlan.{RingPlan}

-- the mode of a side
abbrev pub mode_of : RingPlan → Side → Mode
mode_of plan Put = plan.put
mode_of plan Take = plan.take

-- how many of n are granted when there is this much room: bulk grants all or none, burst as many as fit
abbrev pub granted : How → (n room : ℕ) → ℕ
granted Bulk n room = if nat_le n room then n else 0
granted Burst n room = min n room
