-- A row of rings with their plans: what is at an index, how many there are, and the result of a write of one ring
use Rattle.std.proofs.Common.{◌≡◌, ◌∙◌, ℕ, zero, suc, List, [], ◌∷◌, ◌++◌, length, refl, ap, sym}
use Rattle.std.specs.Prelude.{Some, slice_get, slice_set, slice_index_or}
use Rattle.geom.specs.declared.plan.RingPlan.{RingPlan}
use Rattle.ringcore.specs.declared.ring.PlannedRing.{PlannedRing}
use Rattle.ringcore.specs.declared.ring.Ring.{Ring}
use Rattle.ringcore.specs.Planned.{plans_in, rings_in}

pub plans_length : (rings : List PlannedRing) → length (plans_in rings) ≡ length rings
plans_length [] = refl
plans_length (r ∷ rings) = ap suc (plans_length rings)

pub plans_counted : (n : ℕ) (rings : List PlannedRing) → n ≡ length rings → n ≡ length (plans_in rings)
plans_counted n rings counted = counted ∙ sym (plans_length rings)

-- the plan and the ring at an index, whatever the default
pub plan_there : (rings : List PlannedRing) (i : ℕ) (plan : RingPlan) (d : PlannedRing) → slice_get (plans_in rings) i ≡ Some plan
    → (slice_index_or rings i d).plan ≡ plan
plan_there [] i plan d there = absurd cc
plan_there (r ∷ rings) zero plan d there = cc
plan_there (r ∷ rings) (suc i) plan d there = plan_there rings i plan d there

pub ring_there : (rings : List PlannedRing) (i : ℕ) (ring : Ring) (d : PlannedRing) → slice_get (rings_in rings) i ≡ Some ring
    → (slice_index_or rings i d).ring ≡ ring
ring_there [] i ring d there = absurd cc
ring_there (r ∷ rings) zero ring d there = cc
ring_there (r ∷ rings) (suc i) ring d there = ring_there rings i ring d there

-- a write of the ring at an index leaves the plans
pub plans_kept : (rings : List PlannedRing) (i : ℕ) (d x : PlannedRing) → x.plan ≡ (slice_index_or rings i d).plan
    → plans_in (slice_set rings i x) ≡ plans_in rings
plans_kept [] i d x same = refl
plans_kept (r ∷ rings) zero d x same = ap (λ (v : RingPlan). v ∷ plans_in rings) same
plans_kept (r ∷ rings) (suc i) d x same = ap (λ (v : List RingPlan). r.plan ∷ v) (plans_kept rings i d x same)

pub ring_set : (rings : List PlannedRing) (i : ℕ) (x : PlannedRing) → rings_in (slice_set rings i x) ≡ slice_set (rings_in rings) i x.ring
ring_set [] i x = refl
ring_set (r ∷ rings) zero x = refl
ring_set (r ∷ rings) (suc i) x = ap (λ (v : List Ring). r.ring ∷ v) (ring_set rings i x)

-- one more ring
pub plans_more : (rings : List PlannedRing) (x : PlannedRing) → plans_in (rings ++ x ∷ []) ≡ plans_in rings ++ x.plan ∷ []
plans_more [] x = refl
plans_more (r ∷ rings) x = ap (λ (v : List RingPlan). r.plan ∷ v) (plans_more rings x)

pub rings_more : (rings : List PlannedRing) (x : PlannedRing) → rings_in (rings ++ x ∷ []) ≡ rings_in rings ++ x.ring ∷ []
rings_more [] x = refl
rings_more (r ∷ rings) x = ap (λ (v : List Ring). r.ring ∷ v) (rings_more rings x)
