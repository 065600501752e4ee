-- What a hand holds after a put and a take, of the items that its thread has.
use Rattle.std.proofs.Common.{◌≡◌, ℕ, zero, suc, ◌+◌, ◌-◌, ◌<◌, ◌≤◌, List, [], take, length, slice_get, Some, true, refl, sym, ap, ◌∙◌, subst, arith}
use Rattle.std.proofs.lemmas.Option.{same_Some}
use Rattle.geom.specs.declared.plan.How.{How}
use Rattle.geom.specs.declared.plan.RingPlan.{RingPlan}
use Rattle.geom.specs.declared.plan.Side.TheVariants.{Put, Take}
use Rattle.ringcore_laws.specs.Sound.{holds, occurrences_in}
use Rattle.burst.specs.declared.tagged.Tagged.{Ghosts}
use Rattle.fabric.specs.declared.stored.Stored.{Ghosts as StoredGhosts}
use Rattle.fabric_laws.specs.declared.view.View.{View}
use Rattle.fabric_laws.specs.Kinds.{IsHeldOnce}
use Rattle.fabric.specs.declared.hand.Hand.{Hand}
use Rattle.fabric.specs.declared.hand.StartFault.{StartFault}
use Rattle.fabric.specs.Hands.{view}
use Rattle.fabric.proofs.Holding.{holds_put, holds_take}
use Rattle.fabric.proofs.Told.{refused_kept}
use Rattle.ringapi.proofs.Moves.{moved_party}
use Rattle.ringapi.proofs.Counts.{count_parts}
use Rattle.ringapi.proofs.Tries.{starts_kept}
use Rattle.ringapi.specs.declared.answers.Moved.{Moved}
use Rattle.ringapi.specs.declared.answers.PutAnswer.TheVariants as put
use Rattle.ringapi.specs.declared.answers.TakeAnswer.TheVariants as taken
use Rattle.ringapi.specs.Puts.{PutHasTold}
use Rattle.ringapi.specs.Takes.{TakeHasTold}
use Rattle.stages.specs.Custody.{HoldsAll}
use Rattle.stages.specs.Passing.{AreRings}

-- of the rings of a run only the first is a free one
pub is_first : (plans : List RingPlan) → AreRings plans → (ring : ℕ) (plan : RingPlan) → ring < 3 → slice_get plans ring ≡ Some plan
    → plan.free ≡ true → ring ≡ 0
is_first plans are zero plan small there free = refl
is_first plans are (suc zero) plan small there free = absurd (cc (sym free ∙ are.unjudged plan there))
is_first plans are (suc (suc zero)) plan small there free = absurd (cc (sym free ∙ are.mixed plan there))
is_first plans are (suc (suc (suc n))) plan small there free = absurd (omega (arith, small))

module _ {T : Type 0} {S : Type 0} {G : Ghosts T} {H : StoredGhosts S T} (tags : T → List ℕ) where
  -- a hand in a place
  pub holds_some : (h : Hand T S G H) (count : ℕ → ℕ) → ((b : ℕ) → count b ≤ holds tags b (view h).party) → HoldsAll tags (Some h) count
  holds_some h count all k same b = subst (λ (x : Hand T S G H). count b ≤ holds tags b (view x).party) (same_Some h k same) (all b)

  module _ (most : ℕ) (how : How) (ring : ℕ) (plan : RingPlan) where
    -- the items that a put left, and others
    pub put_kept : (v : View T) (h : Hand T S G H) (m : Moved) (items rest : List T) → PutHasTold {N = most} tags how ring plan v items (put.Done h m) rest
        → (others : ℕ → ℕ) → ((b : ℕ) → occurrences_in tags b items + others b ≤ holds tags b v.party)
        → (b : ℕ) → occurrences_in tags b rest + others b ≤ holds tags b (view h).party
    put_kept v h m items rest told others had b =
        let is = told.2.2 in
        let less : holds tags b (view h).party ≡ holds tags b v.party - occurrences_in tags b (take m.count items) =
        ap (holds tags b) (moved_party tags most how (length items) ring Put plan v (view h) told.0 m.count m.left [] (take m.count items) told.1 is)
        ∙ holds_put tags b ring is.0 m.count v.party (take m.count items) in
        omega (arith, had b, less, count_parts tags b m.count items, ap (occurrences_in tags b) told.2.1)

    -- the items that a take gave, and others
    pub take_kept : (n : ℕ) (v : View T) (h : Hand T S G H) (m : Moved) (items : List T) → TakeHasTold {N = most} tags how n ring plan v (taken.Done h m) items
        → IsHeldOnce tags v.pool v.party → (others : ℕ → ℕ) → ((b : ℕ) → others b ≤ holds tags b v.party)
        → (b : ℕ) → occurrences_in tags b items + others b ≤ holds tags b (view h).party
    take_kept n v h m items told once others had b =
        let is = told.2.2 in
        let more : holds tags b (view h).party ≡ holds tags b v.party + occurrences_in tags b items =
        ap (holds tags b) (moved_party tags most how n ring Take plan v (view h) told.0 m.count m.left items items told.1 is)
        ∙ holds_take tags b ring is.0 m.count v.party items (once b).2 in
        omega (arith, had b, more)

    pub take_refused : (n : ℕ) (v : View T) (h : Hand T S G H) (e : StartFault) (items : List T) → TakeHasTold {N = most} tags how n ring plan v (taken.Refused h e) items
        → (others : ℕ → ℕ) → ((b : ℕ) → others b ≤ holds tags b v.party)
        → (b : ℕ) → occurrences_in tags b items + others b ≤ holds tags b (view h).party
    take_refused n v h e items told others had b =
        let same = refused_kept tags most how n ring Take plan told.2.1 (view h) e told.2.3
        in let party = same.party ∙ starts_kept tags most how n ring Take plan v told.0 told.2.1 told.2.2 in
        omega (arith, had b, ap (holds tags b) party, ap (occurrences_in tags b) told.2.0)
