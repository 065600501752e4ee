-- Worked cases of a ring that was looked up, and of counts
use Rattle.std.proofs.Common.{◌≡◌, ◌∙◌, ◌≤◌, arith, ℕ, ◌*◌, ◌+◌, ◌-◌, ◌^◌, List, [], ◌∷◌, Option, None, Some, ap, refl, sym, false}
use Rattle.std.specs.Prelude.{slice_get}
use Rattle.geom.specs.declared.plan.Mode.{Mode}
use Rattle.geom.specs.declared.plan.Mode.TheVariants.{Hts, Multi}
use Rattle.geom.specs.Extent.{range_of}
use Rattle.geom.specs.declared.plan.RingPlan.{RingPlan}
use Rattle.geom.specs.declared.plan.Side.TheVariants.{Put, Take}
use Rattle.fabric_laws.specs.Words.{slots_before}
use Rattle.fabric_laws.specs.declared.view.View.{View}
use Rattle.fabric.specs.declared.fabric.Fabric.{Fabric}
use Rattle.fabric.specs.declared.place.Place.{Place}
use Rattle.fabric.specs.Counts.{CountsQueued, queued_between}
use Rattle.fabric.specs.Hands.{rings_of}
use Rattle.fabric.specs.Places.{HasCounts, IsPlaceOf, place_mode}

-- a ring of four slots for three items
abbrev ring : Mode → RingPlan
ring mode = record {
  geometry = record { size = 4; capacity = 3; last = 2 ^ 44 - 1; count_bits = 20 };
  put = mode;
  take = mode;
  free = false;
}

abbrev put_of : Option RingPlan → Mode
put_of None = Multi
put_of (Some plan) = plan.put

-- a fabric has two rings: the slots of the second begin after the four of the first
module _ {T : Type 0} {N : ℕ} {S : Type 0} (f : Fabric T N S) (is : rings_of f ≡ ring Multi ∷ ring Hts ∷ []) (p : Place) (at : p.index ≡ 1) where
  pub second : p.shape.plan ≡ ring Hts → p.shape.base ≡ 4 → IsPlaceOf f p
  second plan base = ((λ i. slice_get (is i) (at i)) ∙ ap Some (sym plan), base ∙ sym (λ i. slots_before (is i) (at i)))

  pub slots_of_the_first : p.shape.base ≡ 0 → IsPlaceOf f p → ⊥
  slots_of_the_first base place = absurd (let z : 0 ≡ 4 = sym base ∙ (place.1 ∙ (λ i. slots_before (is i) (at i))) in cc)

  pub plan_of_the_first : p.shape.plan ≡ ring Multi → IsPlaceOf f p → ⊥
  plan_of_the_first plan place =
      absurd (let z : Hts ≡ Multi = ap put_of (sym (λ i. slice_get (is i) (at i)) ∙ (place.0 ∙ ap Some plan)) in cc)

-- the take side is settled up to position 5, the put side up to 7
pub two_queued : queued_between (ring Multi) 5 7 ≡ 2
two_queued = refl

-- in words of head/tail-sync sides, of which the first shows that both items are reserved
pub two_shown : queued_between (ring Hts) (5 * 2 ^ 20 + 2) (7 * 2 ^ 20) ≡ 2
two_shown = refl

-- more were put and taken between the two loads than the ring takes
pub no_more_than_fit : queued_between (ring Multi) 5 12 ≡ 3
no_more_than_fit = refl

-- however the two loads came out, no count above what the ring takes is told
never_above : {T : Type 0} (tags : T → List ℕ) (v : View T) → CountsQueued tags 0 (ring Multi) v 4 → ⊥
never_above tags v c = omega (arith, c.queued)

-- a multi side has no count; a head/tail-sync word hasn't room for one as large as its range
multi_counts_nothing : (p : Place) (n : ℕ) → place_mode p Put ≡ Multi → HasCounts p Put n
multi_counts_nothing p n multi = λ hts. absurd (let e : Multi ≡ Hts = sym multi ∙ hts in cc)

more_than_its_word_counts : (p : Place) (n : ℕ) → place_mode p Take ≡ Hts → range_of p.shape.plan.geometry ≤ n → HasCounts p Take n → ⊥
more_than_its_word_counts p n hts large is = let few = is hts in omega (arith, few, large)
