use Rattle.std.proofs.Common.{ℕ, ◌<◌, ◌≡◌}
use Rattle.std.specs.Prelude.{slice_get, Some}
use Rattle.geom.specs.declared.plan.RingPlan.{RingPlan}
use Rattle.geom.specs.Fit.{Fits}
use Rattle.geom.proofs.plan.all_fit.Given as goal

abbrev pub invariant-loop-plan : goal.invariant-loop-plan
invariant-loop-plan l = (r : ℕ) (plan : RingPlan) → r < l.plan-index → slice_get l.rings r ≡ Some plan → Fits plan l.buffers l.longest
