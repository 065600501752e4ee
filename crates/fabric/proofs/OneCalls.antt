-- Whole puts and takes of one item
use Rattle.std.proofs.Common.{◌≡◌, ℕ, List, refl, ap, ◌∙◌, subst, sym, Option}
use Rattle.atomic_table.specs.declared.shared.Seat.{Seat}
use Rattle.geom.specs.declared.plan.How.{How}
use Rattle.geom.specs.declared.plan.Mode.{Mode}
use Rattle.geom.specs.declared.plan.RingPlan.{RingPlan}
use Rattle.geom.specs.declared.plan.Side.{Side}
use Rattle.ringcore_laws.specs.Party.{with_open}
use Rattle.fabric_laws.specs.declared.view.View.{View}
use Rattle.fabric_laws.specs.Changes.{settled}
use Rattle.fabric.specs.declared.fabric.Fabric.{Fabric}
use Rattle.fabric.specs.declared.hand.SettleFault.{SettleFault}
use Rattle.fabric.specs.declared.hand.SettleFault.TheVariants.{BadCount, NotYet, NotYours}
use Rattle.fabric.specs.declared.hand.recent.Recent.{Recent}
use Rattle.fabric.specs.declared.ring.Positions.{Positions}
use Rattle.fabric.specs.declared.ring.Ring.{Ring}
use Rattle.fabric.specs.AtOnce.{IsRecent}
use Rattle.fabric.specs.OpenSpans.{HasStarted}
use Rattle.fabric.specs.Settles.{RefusesSettle}
use Rattle.fabric.specs.Starts.{MayStart, Starts}
use Rattle.fabric.specs.Views.{span_of}
use Rattle.fabric.specs.WholeCalls.{HasOpen}
use Rattle.fabric.proofs.Seats.{plan_of}

-- a settle leaves what the hand remembers
pub recent_settled : {T : Type 0} (m : Recent) (v w : View T) (ring count : ℕ) (side : Side) (start : ℕ) (items : List T)
    → w ≡ settled (span_of ring side start count) items v → IsRecent m v → IsRecent m w
recent_settled m v w ring count side start items is was = subst (IsRecent m) (sym is) was

-- a start on a ring is one on the ring of its number
pub opened_at : {T : Type 0} {N : ℕ} {S : Type 0} (tags : T → List ℕ) (r : Ring T N S) (f : Fabric T N S) (ring : ℕ) → r.fabric.now ≡ f → r.index ≡ ring
    → (side : Side) (most : ℕ) (how : How) (n : ℕ) (v : View T) (seat : Seat (Option T) (View T)) (range : Positions)
    → HasStarted tags most how n side r v seat range → HasOpen tags f most how n ring v side record { ring = ring; range = range } seat.me.0
opened_at tags r f ring of is side most how n v seat range h = record {
  at = refl;
  starts = λ plan there. subst (λ (z : ℕ × RingPlan). Starts tags how n z.0 side z.1 v range.start range.count range.left seat.me.0.shown seat.me.0)
      (λ i. (is i, plan_of r f ring of is plan there i)) h.starts;
  may = λ plan there. subst (λ (p : RingPlan). MayStart tags most n side p v) (plan_of r f ring of is plan there) h.may;
  party = h.party ∙ ap (λ i. with_open v.party (span_of i side range.start range.count)) is;
  empty = h.empty;
  full = h.full;
}

-- a settle that was refused changes nothing of what a span shows
pub shown_kept : {T : Type 0} (tags : T → List ℕ) (mode : Mode) (plan : RingPlan) (k count start : ℕ) (items : List T) (v w : View T) (e : SettleFault)
    → RefusesSettle tags mode plan k count start items v w e → w.shown ≡ v.shown
shown_kept tags mode plan k count start items v w BadCount is = ap (λ z. z.shown) is.1
shown_kept tags mode plan k count start items v w NotYours is = ap (λ z. z.shown) is.2
shown_kept tags mode plan k count start items v w (NotYet x) is = ap (λ z. z.shown) is.3
