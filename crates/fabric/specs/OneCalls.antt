-- Whole puts and takes of one item, which don't say how many more positions were free, or queued
use Rattle.std.specs.Prelude.{◌≡◌, ℕ, ◌++◌, List, [], drop, length, take}
use Rattle.geom.specs.declared.plan.How.TheVariants.{Bulk}
use Rattle.geom.specs.declared.plan.Side.{Side}
use Rattle.geom.specs.declared.plan.Side.TheVariants.{Put, Take}
use Rattle.fabric_laws.specs.declared.view.View.{View}
use Rattle.fabric.specs.declared.fabric.Fabric.{Fabric}
use Rattle.fabric.specs.declared.hand.in_place.OpenSpan.{OpenSpan}
use Rattle.fabric.specs.declared.hand.in_place.OpenSpan.TheVariants as open_span
use Rattle.fabric.specs.declared.hand.in_place.Reserved.{Reserved}
use Rattle.fabric.specs.declared.hand.in_place.WholeFault.{WholeFault}
use Rattle.fabric.specs.declared.hand.in_place.WholeFault.TheVariants.{Start, Settle}
use Rattle.fabric.specs.AtOnce.{IsLoaded}
use Rattle.fabric.specs.WholeCalls.{HasMoved, OpensNone, StaysOpen}

-- the same positions, with another number of positions left
abbrev pub with_left : Reserved → ℕ → Reserved
with_left r left = record r { range = record r.range { left = left } }

-- calls that could reserve at most `most` positions; w is the view v, or that after a load by which an exchange was lost
module _ {T : Type 0} {N : ℕ} {S : Type 0} (tags : T → List ℕ) (f : Fabric T N S) (most ring : ℕ) (v : View T) where
  -- a span of one position was opened and settled with this item
  abbrev pub MovesOne : Side → Reserved → List T → List T → View T → Type 0
  MovesOne side r shown items u =
      (w : View T) × (left : ℕ) × IsLoaded v w × HasMoved tags f most Bulk 1 ring w side (with_left r left) shown items u

  -- none was opened, or one was opened and stays open
  abbrev pub RefusesPutOne : List T → OpenSpan → View T → WholeFault → Type 0
  RefusesPutOne items span u (Start e) = (w : View T) × IsLoaded v w × OpensNone tags f most Bulk 1 ring w Put span u e
  RefusesPutOne items span u (Settle r e) = (w : View T) × (left : ℕ) × IsLoaded v w × (span ≡ open_span.Put r)
      × StaysOpen tags f most Bulk 1 ring w Put (with_left r left) (length (take r.range.count items)) [] (take r.range.count items) u e

  abbrev pub RefusesTakeOne : List T → List T → OpenSpan → View T → WholeFault → Type 0
  RefusesTakeOne before after span u (Start e) =
      (w : View T) × IsLoaded v w × (after ≡ before) × OpensNone tags f most Bulk 1 ring w Take span u e
  RefusesTakeOne before after span u (Settle r e) = (w : View T) × (left : ℕ) × IsLoaded v w × (span ≡ open_span.Take r)
      × (shown : List T) × (length shown ≡ r.range.count) × (after ≡ shown ++ drop (length shown) before)
      × StaysOpen tags f most Bulk 1 ring w Take (with_left r left) r.range.count shown [] u e
