-- The rings of a new pool, and the numbers that are put on its free ring
use Rattle.std.proofs.Common.{◌≡◌, ◌<◌, ◌≤◌, ◌+◌, ◌-◌, ◌++◌, ◌∷◌, ◌∙◌, ℕ, zero, suc, Bool, true, false, List, [], Some, None, arith, inr, length, map, nat_lt, take, drop, refl, sym, ap, subst, slice_get, slice_set}
use Rattle.std.specs.Prelude.{replicate, min}
use Rattle.std.specs.List.{flat_map, range_with_len}
use Rattle.std.proofs.lemmas.Bool.Decides.{nat_tests}
use Rattle.std.proofs.lemmas.List.{drop-take, length-drop, length-replicate, take-append-drop, take-take, take_min}
use Rattle.geom.specs.declared.plan.RingPlan.{RingPlan}
use Rattle.geom.specs.Extent.{Extent, IsExtent, range_of}
use Rattle.geom.specs.Fit.{Fits}
use Rattle.ringcore_laws.proofs.Laws.{same_plan}
use Rattle.ringcore_laws.specs.declared.party.Settled.{Settled}
use Rattle.burst.specs.Numbers.{times}
use Rattle.fabric_laws.proofs.Openings.{in_range, not_in_range}
use Rattle.fabric.specs.Making.{AreTagged, WordsMayStand}
use Rattle.fabric.specs.Owned.{one_if}
use Rattle.capi.specs.PoolOpenings.{ArePut, HasPut}
use Rattle.capi.specs.PoolMembers.{ArePoolRings, IsPoolRing, all_numbers, numbers_of}
use Rattle.capi.specs.declared.pools.member.Number.{Number}

abbrev number : ℕ → Number
number k = record { value = k }

none_some : {X : Type 0} {x : X} → None ≡ Some x → ⊥
none_some e = cc

-- all numbers fit into a ring of this capacity
pub fits_all : (plan : RingPlan) (n : ℕ) {e : Extent} → plan.geometry ≡ e → IsExtent e → e.capacity ≡ n → 4096 < range_of e → Fits plan n 4096
fits_all plan n is extent all counts = record {
  extent = subst IsExtent (sym is) extent;
  free_rings = λ free. omega (arith, all, ap (λ (x : Extent). x.capacity) is);
  counts = λ side hts. subst (λ (x : Extent). 4096 < range_of x) (sym is) counts;
}

copied : (n ring : ℕ) (other plan : RingPlan) → slice_get (replicate n other) ring ≡ Some plan → plan ≡ other
copied zero zero other plan at = absurd (none_some at)
copied zero (suc ring) other plan at = absurd (none_some at)
copied (suc n) zero other plan at = sym (same_plan at)
copied (suc n) (suc ring) other plan at = copied n ring other plan at

module _ (first other : RingPlan) where
  each_plan : (holds : RingPlan → Type 0) → holds first → holds other → (n ring : ℕ) (plan : RingPlan)
      → slice_get (slice_set (replicate n other) 0 first) ring ≡ Some plan → holds plan
  each_plan holds front behind zero zero plan at = absurd (none_some at)
  each_plan holds front behind zero (suc ring) plan at = absurd (none_some at)
  each_plan holds front behind (suc n) zero plan at = subst holds (same_plan at) front
  each_plan holds front behind (suc n) (suc ring) plan at = subst holds (sym (copied n ring other plan at)) behind

  front_plan : (n : ℕ) (plan : RingPlan) → slice_get (slice_set (replicate n other) 0 first) 0 ≡ Some plan → first ≡ plan
  front_plan zero plan at = absurd (none_some at)
  front_plan (suc n) plan at = same_plan at

  long_plans : (n : ℕ) → length (slice_set (replicate n other) 0 first) ≡ n
  long_plans zero = refl
  long_plans (suc n) = ap suc (length-replicate n other)

  pub pool_rings : (n : ℕ) → first.free ≡ true → IsPoolRing first → IsPoolRing other
      → ArePoolRings (slice_set (replicate n other) 0 first)
  pool_rings n free front behind = record {
    each = each_plan IsPoolRing front behind n;
    first = λ plan at. subst (λ (p : RingPlan). p.free ≡ true) (front_plan n plan at) free;
  }

  pub pool_stands : (n numbers : ℕ) → 0 < n → n ≤ 64 → numbers ≤ 1048575 → Fits first numbers 4096 → Fits other numbers 4096
      → WordsMayStand (slice_set (replicate n other) 0 first) numbers 4096
  pool_stands n numbers some few low front behind = record {
    some_ring = omega (arith, some, long_plans n);
    few_rings = omega (arith, few, long_plans n);
    few_buffers = low;
    some_item = omega arith;
    few_items = omega arith;
    free_rings = each_plan (λ p. Fits p numbers 4096) front behind n;
  }

-- a span more of the numbers
pub put_more : (before after : List (Settled Number)) (numbers front more : List Number) → ArePut before front
    → HasPut more before after → numbers ≡ front ++ more → ArePut after numbers
put_more before after numbers front more were is same =
    subst (λ (l : List (Settled Number)). ArePut l numbers) (sym is.1) (front, same, refl, refl, were)

-- as many numbers from a place on as there are, up to k
part_of : {X : Type 0} (xs : List X) (a k b : ℕ) → a ≤ length xs → b ≡ min (a + k) (length xs)
    → take (b - a) (drop a xs) ≡ take k (drop a xs)
part_of xs a k b inside is = ap (λ j. take j (drop a xs)) (many (length (drop a xs)) (length-drop a xs)) ∙ take_min k (drop a xs)
  where
    many : (m : ℕ) → m ≡ length xs - a → b - a ≡ min k m
    many m long = grind (arith, long, is, inside)

-- k numbers more from the front
pub more_first : {X : Type 0} (xs : List X) (a k b : ℕ) → a ≤ length xs → b ≡ min (a + k) (length xs)
    → take (a + k) xs ≡ take a xs ++ take (b - a) (drop a xs)
more_first xs a k b inside is =
    sym (take-append-drop a (take (a + k) xs))
    ∙ ((λ i. take-take a (a + k) xs (omega arith) i ++ drop-take a k xs i) ∙ ap (λ l. take a xs ++ l) (sym (part_of xs a k b inside is)))

-- the numbers of a new pool carry themselves
flat_numbers : (xs : List ℕ) → flat_map numbers_of (map number xs) ≡ xs
flat_numbers [] = refl
flat_numbers (x ∷ xs) = ap (λ l. x ∷ l) (flat_numbers xs)

once_below : (b n : ℕ) (t : Bool) → nat_lt b n ≡ t → times b (range_with_len 0 n) ≡ one_if t
once_below b n true is = let low : b < n = grind (arith, nat_tests, is) in in_range b 0 n (omega arith) (omega (arith, low))
once_below b n false is = let high : n ≤ b = grind (arith, nat_tests, is) in not_in_range b 0 n (inr (omega (arith, high)))

-- so each is there once
pub all_tagged : (n : ℕ) → AreTagged numbers_of n (all_numbers n)
all_tagged n b = ap (times b) (flat_numbers (range_with_len 0 n)) ∙ once_below b n (nat_lt b n) refl
