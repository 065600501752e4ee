-- What starts and settles that are refused, and then one that is not, leave of the view of a hand
use Rattle.std.proofs.Common.{◌≡◌, ◌≤◌, arith, ℕ, List, [], ◌∷◌, refl, ap, ◌∙◌}
use Rattle.geom.specs.declared.plan.How.{How}
use Rattle.geom.specs.declared.plan.RingPlan.{RingPlan}
use Rattle.geom.specs.declared.plan.Side.{Side}
use Rattle.geom.specs.Plan.{mode_of}
use Rattle.ringcore_laws.specs.History.{position_of, room_by_look}
use Rattle.ringcore_laws.specs.declared.party.Party.{Party}
use Rattle.ringcore_laws.specs.Party.{with_open}
use Rattle.fabric_laws.specs.declared.view.View.{View}
use Rattle.fabric_laws.specs.Changes.{missed}
use Rattle.fabric.specs.declared.hand.StartFault.{StartFault}
use Rattle.fabric.specs.Starts.{Starts}
use Rattle.fabric.specs.Views.{span_of}
use Rattle.fabric.proofs.Told.{granted_few, refused_kept, started_party}
use Rattle.ringapi.specs.Views.{HasSettled, IsMoved, IsReserved, RefusedStarts, SettledNothing, refused_settles}

module _ {T : Type 0} where
  pub settles_kept : (tails : List ℕ) (v : View T) → (refused_settles tails v).party ≡ v.party
  settles_kept [] v = refl
  settles_kept (tail ∷ before) v = settles_kept before v

module _ {T : Type 0} (tags : T → List ℕ) (most : ℕ) (how : How) (n ring : ℕ) (side : Side) (plan : RingPlan) where
  pub starts_kept : (v : View T) (starts : List (View T × StartFault)) (w : View T) → RefusedStarts tags most how n ring side plan v starts w
      → w.party ≡ v.party
  starts_kept v [] w is = ap (λ u. u.party) is
  starts_kept v (start ∷ before) w is =
      (refused_kept tags most how n ring side plan start.0 w start.1 is.0).party ∙ starts_kept v before start.0 is.2

  module _ (v : View T) (starts : List (View T × StartFault)) (start count left : ℕ) (shown : List T) where
    pub reserved_party : (tails : List ℕ) (w : View T) → IsReserved tags most how n ring side plan v starts start count left shown tails w
        → w.party ≡ with_open v.party (span_of ring side start count)
    reserved_party tails w is =
        ap (λ u. u.party) is.view
        ∙ (settles_kept tails is.opened
        ∙ (started_party tags how n ring side plan is.seen start count left shown is.opened is.started
        ∙ ap (λ (p : Party T). with_open p (span_of ring side start count)) (starts_kept v starts is.seen is.tried)))

    pub reserved_settles : (tails : List ℕ) (w : View T) → IsReserved tags most how n ring side plan v starts start count left shown tails w
        → SettledNothing v w
    reserved_settles tails w is = ap (λ (p : Party T). p.settled) (reserved_party tails w is)

    pub settle_again : (tails : List ℕ) (w u : View T) (tail : ℕ) → IsReserved tags most how n ring side plan v starts start count left shown tails w
        → u ≡ missed tail w → IsReserved tags most how n ring side plan v starts start count left shown (tail ∷ tails) u
    settle_again tails w u tail is more = record {
      seen = is.seen;
      opened = is.opened;
      tried = is.tried;
      started = is.started;
      view = more ∙ ap (missed tail) is.view;
    }

  -- no more is granted than was asked for
  pub count_few : (v : View T) (start count left : ℕ) (shown : List T) (w : View T) → Starts tags how n ring side plan v start count left shown w → count ≤ n
  count_few v start count left shown w is =
      omega (
        arith,
        is.granted,
        granted_few how n (room_by_look side plan.geometry.capacity (position_of plan.geometry (mode_of plan side) is.word) is.tail),
      )

  pub first_reserved : (v : View T) (starts : List (View T × StartFault)) (seen : View T) (start count left : ℕ) (shown : List T) (w : View T)
      → RefusedStarts tags most how n ring side plan v starts seen → Starts tags how n ring side plan seen start count left shown w
      → IsReserved tags most how n ring side plan v starts start count left shown [] w
  first_reserved v starts seen start count left shown w tried is = record { seen = seen; opened = w; tried = tried; started = is; view = refl }

  pub moved_settles : (v : View T) (starts : List (View T × StartFault)) (count left : ℕ) (shown : List T) (tails : List ℕ) (items : List T) (w : View T)
      → IsMoved tags most how n ring side plan v starts count left shown tails items w → HasSettled ring side items v w
  moved_settles v starts count left shown tails items w is = (
    is.0,
    ap (λ (u : View T). u.party.settled) is.3
        ∙ ap (λ l. record { ring = ring; side = side; start = is.0; items = items } ∷ l) (reserved_settles v starts is.0 count left shown tails is.1 is.2),
  )
