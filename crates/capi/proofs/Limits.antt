-- How many words a call moves at most
use Rattle.std.proofs.Common.{ℕ, ◌≤◌, Option, arith}
use Rattle.std.specs.Prelude.{None, Some, slice_get}
use Rattle.geom.specs.declared.plan.Mode.{Mode}
use Rattle.geom.specs.declared.plan.Mode.TheVariants.{Hts, Multi}
use Rattle.geom.specs.declared.plan.RingPlan.{RingPlan}
use Rattle.geom.specs.declared.plan.Side.{Side}
use Rattle.geom.specs.Plan.{mode_of}
use Rattle.fabric.specs.Hands.{rings_of}
use Rattle.capi.specs.Members.{Rings}
use Rattle.capi.specs.Spans.{call_limit, limit_in, limit_of}

pub limit_most : (m : Mode) → limit_of m ≤ 1048575
limit_most Multi = omega arith
limit_most Hts = omega arith

pub limit_small : (f : Rings) (ring : ℕ) (side : Side) → call_limit f ring side ≤ 1048575
limit_small f ring side = by (slice_get (rings_of f) ring)
  where
    by : (o : Option RingPlan) → limit_in o side ≤ 1048575
    by None = omega arith
    by (Some plan) = limit_most (mode_of plan side)
