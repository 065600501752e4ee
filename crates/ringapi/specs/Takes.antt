-- The answers of whole takes
use Rattle.std.specs.Prelude.{◌≡◌, ◌<◌, ⊤, ℕ, List, [], ◌∷◌, length}
use Rattle.std.specs.List.{flat_map}
use Rattle.geom.specs.declared.plan.How.{How}
use Rattle.geom.specs.declared.plan.Mode.TheVariants.{Multi}
use Rattle.geom.specs.declared.plan.RingPlan.{RingPlan}
use Rattle.geom.specs.declared.plan.Side.TheVariants.{Take}
use Rattle.burst.specs.Numbers.{AreDistinct}
use Rattle.burst.specs.declared.tagged.Tagged.{Ghosts}
use Rattle.fabric.specs.declared.stored.Stored.{Ghosts as StoredGhosts}
use Rattle.fabric_laws.specs.declared.view.View.{View}
use Rattle.fabric_laws.specs.Changes.{missed, settled}
use Rattle.fabric.specs.declared.fabric.Fabric.{Fabric}
use Rattle.fabric.specs.declared.hand.TakeOpenLent.{TakeOpenLent}
use Rattle.fabric.specs.declared.hand.StartFault.{StartFault}
use Rattle.fabric.specs.declared.hand.StartFault.TheVariants.{Worn}
use Rattle.fabric.specs.Hands.{IsHandOf, SameTake, take_fabric, take_left, take_span, take_view, view}
use Rattle.fabric.specs.Starts.{RefusesCount, RefusesStart}
use Rattle.fabric.specs.Views.{IsWornAt}
use Rattle.ringapi.specs.declared.answers.TakeAnswer.{TakeAnswer}
use Rattle.ringapi.specs.declared.answers.TakeAnswer.TheVariants.{Done, Refused, Open}
use Rattle.ringapi.specs.Views.{HasSettled, IsMoved, IsReserved, IsTransient, RefusedStarts}
use Rattle.ringapi.specs.Views.{SettledNothing}

module _ {T : Type 0} {S : Type 0} {G : Ghosts T} {H : StoredGhosts S T} {N : ℕ} where
  -- the hand, or the open span, is of this fabric, and of this ring
  abbrev pub IsTakeOf : Fabric T N S → ℕ → TakeAnswer T N S G H → Type 0
  IsTakeOf f ring (Done h moved) = IsHandOf f h
  IsTakeOf f ring (Refused h why) = IsHandOf f h
  IsTakeOf f ring (Open o tail) = (take_fabric o ≡ f) × ((take_span o).ring ≡ ring)

  -- What a take of n items returns, after starts and settles that were refused before its last. The items are those
  -- that it took, or those that its open span shows
  abbrev pub TakeTells : (T → List ℕ) → How → ℕ → ℕ → RingPlan → View T → List (View T × StartFault) → List ℕ
      → TakeAnswer T N S G H → List T → Type 0
  TakeTells tags how n ring plan v starts tails (Done h moved) items =
      (length items ≡ moved.count) × AreDistinct (flat_map tags items)
      × IsMoved tags N how n ring Take plan v starts moved.count moved.left items tails items (view h)
  TakeTells tags how n ring plan v starts tails (Refused h e) items =
      (items ≡ []) × (seen : View T) × RefusedStarts tags N how n ring Take plan v starts seen
      × RefusesStart tags N how n ring Take plan seen (view h) e × RefusesCount tags N n Take plan seen e
  TakeTells tags how n ring plan v starts tails (Open o tail) items =
      (items ≡ (take_view o).shown) × (plan.take ≡ Multi) × (tail < (take_span o).start)
      × IsReserved tags N how n ring Take plan v starts (take_span o).start (take_span o).count (take_left o) items
      (tail ∷ tails) (take_view o)

  -- the same in short: one span was settled with these items, or nothing was
  abbrev pub TakeSettles : ℕ → View T → TakeAnswer T N S G H → List T → Type 0
  TakeSettles ring v (Done h moved) items = HasSettled ring Take items v (view h)
  TakeSettles ring v (Refused h e) items = SettledNothing v (view h) × (e ≡ Worn → IsWornAt N (view h))
  TakeSettles ring v (Open o tail) items = SettledNothing v (take_view o)

  -- the same after some starts and settles that were refused
  abbrev pub TakeHasTold : (T → List ℕ) → How → ℕ → ℕ → RingPlan → View T → TakeAnswer T N S G H → List T → Type 0
  TakeHasTold tags how n ring plan v answer items = (starts : List (View T × StartFault)) × (tails : List ℕ)
      × TakeTells tags how n ring plan v starts tails answer items

  -- what a waiting take doesn't return, but tries again
  abbrev pub IsUnfinishedTake : TakeAnswer T N S G H → Type 0
  IsUnfinishedTake (Done h moved) = ⊥
  IsUnfinishedTake (Refused h e) = IsTransient e
  IsUnfinishedTake (Open o tail) = ⊤

  -- what the settle of a take's span with all its items returns
  abbrev pub SettlesTake : (T → List ℕ) → TakeOpenLent T N S G H → List T → TakeAnswer T N S G H → List T → Type 0
  SettlesTake tags o items (Done h moved) rest =
      IsHandOf (take_fabric o) h × (view h ≡ settled (take_span o) items (take_view o))
      × (length items ≡ moved.count) × (moved.count ≡ (take_span o).count) × (moved.left ≡ take_left o)
      × (rest ≡ items) × AreDistinct (flat_map tags rest)
  SettlesTake tags o items (Refused h e) rest = ⊥
  SettlesTake tags o items (Open q tail) rest = SameTake o q × (rest ≡ items) × (o.ring.shape.now.plan.take ≡ Multi)
      × (tail < (take_span o).start) × (take_view q ≡ missed tail (take_view o))

  -- what a take leaves of the list that its items go to: all as it was if it was refused, and otherwise what is beside
  -- the items
  abbrev pub LeavesRoom : {R : Type 0} → (R → R → Type 0) → R → TakeAnswer T N S G H → R → Type 0
  LeavesRoom beside before (Done h moved) after = beside before after
  LeavesRoom beside before (Refused h e) after = after ≡ before
  LeavesRoom beside before (Open o tail) after = beside before after
