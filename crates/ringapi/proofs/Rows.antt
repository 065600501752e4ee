-- Worked cases: what a waiting call tries again, and histories of attempts that are none
use Rattle.std.proofs.Common.{◌≡◌, ℕ, List, [], ◌∷◌}
use Rattle.geom.specs.declared.plan.How.{How}
use Rattle.geom.specs.declared.plan.RingPlan.{RingPlan}
use Rattle.geom.specs.declared.plan.Side.{Side}
use Rattle.fabric_laws.specs.declared.view.View.{View}
use Rattle.fabric.specs.declared.hand.StartFault.{StartFault}
use Rattle.fabric.specs.declared.hand.StartFault.TheVariants.{Busy, Contended, NoRoom, Worn, BadCount}
use Rattle.ringapi.specs.Views.{IsTransient, RefusedStarts}

-- each refusal of a start: two are tried again, three are answered
busy_passes_by : (x : ℕ) → IsTransient (Busy x)
busy_passes_by x = tt

contended_passes_by : (x : ℕ) → IsTransient (Contended x)
contended_passes_by x = tt

no_room_is_answered : (left : ℕ) → IsTransient (NoRoom left) → ⊥
no_room_is_answered left passes = passes

worn_is_answered : IsTransient Worn → ⊥
worn_is_answered passes = passes

bad_count_is_answered : IsTransient BadCount → ⊥
bad_count_is_answered passes = passes

module _ {T : Type 0} (tags : T → List ℕ) (most : ℕ) (how : How) (n ring : ℕ) (side : Side) (plan : RingPlan) (v u w : View T)
    (before : List (View T × StartFault)) where
  -- no attempt comes after one that found no room, whatever came before it: a call doesn't wait for room
  waits_for_room : (left : ℕ) → RefusedStarts tags most how n ring side plan v ((u, NoRoom left) ∷ before) w → ⊥
  waits_for_room left is = is.1

  -- nor after one that found a worn ring, or a count that no start takes
  goes_on_after_worn : RefusedStarts tags most how n ring side plan v ((u, Worn) ∷ before) w → ⊥
  goes_on_after_worn is = is.1

  goes_on_after_a_bad_count : RefusedStarts tags most how n ring side plan v ((u, BadCount) ∷ before) w → ⊥
  goes_on_after_a_bad_count is = is.1

  -- an attempt that was refused changed nothing but what it looked at: with no refusal the view is the one before
  none_refused : RefusedStarts tags most how n ring side plan v [] w → w ≡ v
  none_refused is = is
