-- The answers of whole puts
use Rattle.std.specs.Prelude.{◌≡◌, ◌<◌, ⊤, ℕ, List, [], ◌∷◌, length, take, drop}
use Rattle.geom.specs.declared.plan.How.{How}
use Rattle.geom.specs.declared.plan.Mode.TheVariants.{Multi}
use Rattle.geom.specs.declared.plan.RingPlan.{RingPlan}
use Rattle.geom.specs.declared.plan.Side.TheVariants.{Put}
use Rattle.burst.specs.declared.tagged.Tagged.{Ghosts}
use Rattle.fabric.specs.declared.stored.Stored.{Ghosts as StoredGhosts}
use Rattle.fabric_laws.specs.declared.view.View.{View}
use Rattle.fabric_laws.specs.Changes.{missed}
use Rattle.fabric.specs.declared.fabric.Fabric.{Fabric}
use Rattle.fabric.specs.declared.hand.PutOpen.{PutOpen}
use Rattle.fabric.specs.declared.hand.StartFault.{StartFault}
use Rattle.fabric.specs.declared.hand.StartFault.TheVariants.{Worn}
use Rattle.fabric.specs.Hands.{HasPut, IsHandOf, SamePut, put_fabric, put_left, put_span, put_view, view}
use Rattle.fabric.specs.Settles.{AreNotYours, AreYours}
use Rattle.fabric.specs.Starts.{RefusesCount, RefusesStart}
use Rattle.fabric.specs.Views.{IsWornAt}
use Rattle.ringapi.specs.declared.answers.PutAnswer.{PutAnswer}
use Rattle.ringapi.specs.declared.answers.PutAnswer.TheVariants.{Done, Refused, Open}
use Rattle.ringapi.specs.declared.answers.Refusal.TheVariants.{Start, NotYours}
use Rattle.ringapi.specs.Faults.{IsTransientRefusal}
use Rattle.ringapi.specs.Views.{HasSettled, IsMoved, IsReserved, RefusedStarts}
use Rattle.ringapi.specs.Views.{SettledNothing}

module _ {T : Type 0} {S : Type 0} {G : Ghosts T} {H : StoredGhosts S T} {N : ℕ} where
  -- the hand, or the open span, is of this fabric, and of this ring
  abbrev pub IsPutOf : Fabric T N S → ℕ → PutAnswer T N S G H → Type 0
  IsPutOf f ring (Done h moved) = IsHandOf f h
  IsPutOf f ring (Refused h why) = IsHandOf f h
  IsPutOf f ring (Open o tail) = (put_fabric o ≡ f) × ((put_span o).ring ≡ ring)

  -- What a put of these items returns, after starts and settles that were refused before its last. The items that it
  -- leaves are `rest`. Items that the hand may not put are refused before any start, and by no other refusal
  abbrev pub PutTells : (T → List ℕ) → How → ℕ → RingPlan → View T → List T → List (View T × StartFault) → List ℕ
      → PutAnswer T N S G H → List T → Type 0
  PutTells tags how ring plan v items starts tails (Done h moved) rest =
      AreYours tags plan v items × (rest ≡ drop moved.count items)
      × IsMoved tags N how (length items) ring Put plan v starts moved.count moved.left [] tails
      (take moved.count items) (view h)
  PutTells tags how ring plan v items starts tails (Refused h (Start e)) rest =
      AreYours tags plan v items × (rest ≡ items) × (seen : View T)
      × RefusedStarts tags N how (length items) ring Put plan v starts seen
      × RefusesStart tags N how (length items) ring Put plan seen (view h) e
      × RefusesCount tags N (length items) Put plan seen e
  PutTells tags how ring plan v items starts tails (Refused h NotYours) rest =
      AreNotYours tags plan v items × (rest ≡ items) × (view h ≡ v)
  PutTells tags how ring plan v items starts tails (Open o tail) rest =
      AreYours tags plan v items × (rest ≡ items) × (plan.put ≡ Multi) × (tail < (put_span o).start)
      × IsReserved tags N how (length items) ring Put plan v starts (put_span o).start (put_span o).count (put_left o)
      [] (tail ∷ tails) (put_view o)

  -- the same in short: one span was settled with the first items, or nothing was
  abbrev pub PutSettles : ℕ → View T → List T → PutAnswer T N S G H → Type 0
  PutSettles ring v items (Done h moved) = HasSettled ring Put (take moved.count items) v (view h)
  PutSettles ring v items (Refused h why) = SettledNothing v (view h) × (why ≡ Start Worn → IsWornAt N (view h))
  PutSettles ring v items (Open o tail) = SettledNothing v (put_view o)

  -- the same after some starts and settles that were refused
  abbrev pub PutHasTold : (T → List ℕ) → How → ℕ → RingPlan → View T → List T → PutAnswer T N S G H → List T → Type 0
  PutHasTold tags how ring plan v items answer rest = (starts : List (View T × StartFault)) × (tails : List ℕ)
      × PutTells tags how ring plan v items starts tails answer rest

  -- what a waiting put doesn't return, but tries again
  abbrev pub IsUnfinishedPut : PutAnswer T N S G H → Type 0
  IsUnfinishedPut (Done h moved) = ⊥
  IsUnfinishedPut (Refused h why) = IsTransientRefusal why
  IsUnfinishedPut (Open o tail) = ⊤

  -- what the settle of a put's span with its first items returns
  abbrev pub SettlesPut : PutOpen T N S G H → List T → PutAnswer T N S G H → List T → Type 0
  SettlesPut o items (Done h moved) rest =
      HasPut o (take moved.count items) h × (moved.count ≡ (put_span o).count) × (moved.left ≡ put_left o)
      × (rest ≡ drop moved.count items)
  SettlesPut o items (Refused h why) rest = ⊥
  SettlesPut o items (Open q tail) rest = SamePut o q × (rest ≡ items) × (o.ring.shape.now.plan.put ≡ Multi)
      × (tail < (put_span o).start) × (put_view q ≡ missed tail (put_view o))

  -- what a put of these items from a slice leaves: all but as many as it moved, from the front
  abbrev pub left_of : PutAnswer T N S G H → List T → List T
  left_of (Done h moved) items = drop moved.count items
  left_of (Refused h why) items = items
  left_of (Open o tail) items = items

  -- what is in a list after a put of these items, by what is left of it once its first k were put
  abbrev pub rest_by : (List T → ℕ → List T) → PutAnswer T N S G H → List T → List T
  rest_by after (Done h moved) items = after items moved.count
  rest_by after (Refused h why) items = items
  rest_by after (Open o tail) items = items
