-- All that a refused start, and a refused settle, tells its caller
use Rattle.std.specs.Prelude.{◌≡◌, ℕ, List}
use Rattle.geom.specs.declared.plan.How.{How}
use Rattle.geom.specs.declared.plan.Side.{Side}
use Rattle.geom.specs.declared.plan.RingPlan.{RingPlan}
use Rattle.geom.specs.Plan.{mode_of}
use Rattle.ringcore_laws.specs.declared.protocol.Span.{Span}
use Rattle.fabric_laws.specs.declared.view.View.{View}
use Rattle.fabric.specs.declared.hand.SettleFault.{SettleFault}
use Rattle.fabric.specs.declared.hand.StartFault.{StartFault}
use Rattle.fabric.specs.declared.hand.StartFault.TheVariants.{Worn}
use Rattle.fabric.specs.Settles.{RefusesSettle}
use Rattle.fabric.specs.Starts.{RefusesCount, RefusesStart}
use Rattle.fabric.specs.Truths.{IsTrueRefusal, IsTrueTooEarly}
use Rattle.fabric.specs.Views.{IsKept, IsWornAt}

-- Nothing was reserved, for the reason e, where at most `most` positions may be: v is the view before, w the one after
pub record IsRefused {T : Type 0} (tags : T → List ℕ) (most : ℕ) (how : How) (n ring : ℕ) (side : Side) (plan : RingPlan)
    (v w : View T) (e : StartFault) : Type 0 where
  -- what the steps of the start found
  pub steps : RefusesStart tags most how n ring side plan v w e
  -- a request that can't be granted is refused as BadCount, and no other is
  pub count : RefusesCount tags most n side plan v e
  -- what the reason says of the spans of all hands
  pub others : IsTrueRefusal tags ring side plan v w e
  -- the hand has what it had, and a worn ring is at its end
  pub kept : IsKept v w
  pub worn : e ≡ Worn → IsWornAt most w

-- Nothing of the open span was settled, for the reason e. The call was to settle k of its positions, with these items if
-- the span is of a put; v is the view before, w the one after
pub record IsUnsettled {T : Type 0} (tags : T → List ℕ) (plan : RingPlan) (span : Span) (k : ℕ) (items : List T)
    (v w : View T) (e : SettleFault) : Type 0 where
  -- what the tests and the step of the settle found
  pub found : RefusesSettle tags (mode_of plan span.side) plan k span.count span.start items v w e
  -- what the reason says of the spans of all hands
  pub others : IsTrueTooEarly tags span v e
  -- the hand has what it had, its open span too
  pub kept : IsKept v w
