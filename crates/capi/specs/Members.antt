-- What a hand of C's has
use Rattle.std.specs.Prelude.{◌≡◌, ◌≤◌, ℕ, List, Option, Some, false, slice_get, take}
use Rattle.geom.specs.declared.plan.RingPlan.{RingPlan}
use Rattle.geom.specs.declared.plan.Side.TheVariants as side
use Rattle.burst.specs.declared.tagged.Tagged.{Ghosts}
use Rattle.fabric.specs.declared.fabric.Fabric.{Fabric}
use Rattle.fabric.specs.declared.hand.in_place.HandInPlace.{HandInPlace}
use Rattle.fabric.specs.declared.hand.in_place.OpenSpan.TheVariants.{Take}
use Rattle.fabric.specs.declared.hand.in_place.Reserved.{Reserved}
use Rattle.fabric.specs.declared.stored.Stored.{Ghosts as StoredGhosts}
use Rattle.fabric.specs.Held.{IsHtsOf}
use Rattle.fabric.specs.InPlace.{placed_view}
use Rattle.capi.specs.declared.rings.word64.Word64.{Word64}

-- rings of words, of which each slot has a word or none
abbrev pub Rings : Type 0
Rings = Fabric Word64 4095 (Option Word64)

-- no ring holds free buffers
abbrev pub ArePlain : List RingPlan → Type 0
ArePlain plans = (ring : ℕ) (plan : RingPlan) → slice_get plans ring ≡ Some plan → plan.free ≡ false

module _ {G : Ghosts Word64} {H : StoredGhosts (Option Word64) Word64} where
  -- the words of an open take of a head/tail-sync side are at the front: only these can be queued again
  abbrev pub AreShown : HandInPlace Word64 4095 (Option Word64) G H → List Word64 → Type 0
  AreShown h words = (r : Reserved) → h.span ≡ Take r → IsHtsOf (placed_view h).plans r.ring side.Take
      → (r.range.count ≤ 4095) × (take r.range.count words ≡ (placed_view h).shown)
