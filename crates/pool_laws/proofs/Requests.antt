-- What a bulk request tells of its items, of the hand and of why it was refused
use Rattle.std.proofs.Common.{◌≡◌, ℕ, ◌+◌, ◌-◌, ◌<◌, ◌≤◌, List, [], length, refl, ap, ◌∙◌, subst, arith, Ok, Err, drop, take}
use Rattle.std.proofs.lemmas.Bool.Decides.{nat_tests}
use Rattle.geom.specs.Plan.{granted}
use Rattle.geom.specs.declared.plan.How.TheVariants.{Bulk}
use Rattle.geom.specs.declared.plan.RingPlan.{RingPlan}
use Rattle.geom.specs.declared.plan.Side.{Side}
use Rattle.geom.specs.declared.plan.Side.TheVariants.{Put, Take}
use Rattle.ringcore_laws.specs.Sound.{holds, occurrences_in}
use Rattle.burst.specs.declared.tagged.Tagged.{Ghosts}
use Rattle.fabric.specs.declared.stored.Stored.{Ghosts as StoredGhosts}
use Rattle.fabric_laws.specs.declared.view.View.{View}
use Rattle.fabric_laws.specs.Kinds.{IsHeldOnce}
use Rattle.fabric.specs.declared.hand.Hand.{Hand}
use Rattle.fabric.specs.declared.hand.StartFault.{StartFault}
use Rattle.fabric.specs.declared.hand.StartFault.TheVariants.{Busy, Contended, NoRoom, Worn, BadCount}
use Rattle.fabric.specs.Hands.{view}
use Rattle.fabric.proofs.Holding.{holds_put, holds_take}
use Rattle.ringapi.specs.declared.answers.Moved.{Moved}
use Rattle.ringapi.specs.declared.answers.TakeAnswer.TheVariants as taken
use Rattle.ringapi.specs.declared.answers.PutAnswer.TheVariants as put
use Rattle.ringapi.specs.declared.answers.Refusal.{Refusal}
use Rattle.ringapi.specs.declared.answers.Refusal.TheVariants.{Start, NotYours}
use Rattle.ringapi.specs.Puts.{IsUnfinishedPut, PutHasTold}
use Rattle.ringapi.proofs.Yours.{not_both}
use Rattle.fabric.specs.Settles.{AreOwnBuffers, AreYours}
use Rattle.ringapi.specs.Takes.{IsUnfinishedTake, TakeHasTold}
use Rattle.ringapi.specs.Views.{IsMoved, by_bulk}
use Rattle.ringapi.proofs.Tries.{starts_kept}
use Rattle.fabric.proofs.Told.{refused_kept}
use Rattle.fabric.proofs.Pours.{all_first, none_behind}
use Rattle.ringcore_laws.specs.FreeRings.{AreSingle, buffers_had}
use Rattle.std.specs.Prelude.{true}
use Rattle.ringapi.proofs.Counts.{count_parts}
use Rattle.ringapi.proofs.Moves.{had_before, moved_party}
use Rattle.ringapi.proofs.Singles.{single_drop, single_take}
use Rattle.ringapi.specs.Holdings.{HasLess}
use Rattle.pool_laws.specs.Requests.{Spills, Takes, refusal_of}

-- by bulk all positions are granted, or none
pub all_granted : (n room count : ℕ) → count ≡ granted Bulk n room → 0 < count → count ≡ n
all_granted n room count is some = grind (arith, nat_tests, is, some)

module _ {T : Type 0} (tags : T → List ℕ) (most n ring : ℕ) (side : Side) (plan : RingPlan) where
  pub bulk_all : (v w : View T) (starts : List (View T × StartFault)) (count left : ℕ) (shown items : List T) (tails : List ℕ)
      → IsMoved tags most by_bulk n ring side plan v starts count left shown tails items w → count ≡ n
  bulk_all v w starts count left shown items tails is = all_granted n _ count is.2.started.granted is.2.started.positive

module _ {T : Type 0} {S : Type 0} {G : Ghosts T} {H : StoredGhosts S T} (tags : T → List ℕ) (most ring : ℕ) (plan : RingPlan) where
  -- a bulk take that came through
  pub took : (v : View T) (n : ℕ) (h : Hand T S G H) (m : Moved) (items : List T)
      → TakeHasTold {N = most} tags by_bulk n ring plan v (taken.Done h m) items → Takes tags most ring plan v n (Ok h) items
  took v n h m items told =
      let is = told.2 in
      (is.0 ∙ bulk_all tags most n ring Take plan v (view h) told.0 m.count m.left items items told.1 is.2, m, told)

  -- one that was refused
  pub took_none : (v : View T) (n : ℕ) (h : Hand T S G H) (e : StartFault) (items : List T) → 0 < n → n ≤ most
      → (IsUnfinishedTake {N = most} (taken.Refused h e) → ⊥)
      → TakeHasTold {N = most} tags by_bulk n ring plan v (taken.Refused h e) items
      → (items ≡ []) × Takes tags most ring plan v n (Err (h, refusal_of e)) items
  took_none v n h (Busy x) items some few final told = absurd (final tt)
  took_none v n h (Contended x) items some few final told = absurd (final tt)
  took_none v n h (NoRoom left) items some few final told = (told.2.0, (left, told))
  took_none v n h Worn items some few final told = (told.2.0, told)
  took_none v n h BadCount items some few final told =
      absurd (told.2.4 (some, few, λ put free. absurd (let z : Take ≡ Put = put in cc)))

  -- what it took is the hand's own, beside what was
  pub took_holds : (v : View T) (n : ℕ) (h : Hand T S G H) (items : List T) (pool : ℕ) → IsHeldOnce tags pool v.party
      → Takes tags most ring plan v n (Ok h) items → (b : ℕ) → holds tags b (view h).party ≡ holds tags b v.party + occurrences_in tags b items
  took_holds v n h items pool once takes b =
      let told = takes.2 in
      let is = told.2.2 in
      ap (holds tags b) (moved_party tags most by_bulk n ring Take plan v (view h) told.0 takes.1.count takes.1.left items items told.1 is)
      ∙ holds_take tags b ring is.0 takes.1.count v.party items (once b).2

  -- from a free ring, it is of one buffer each
  pub took_single : (v : View T) (n : ℕ) (h : Hand T S G H) (items : List T) → Takes tags most ring plan v n (Ok h) items → plan.free ≡ true
      → AreSingle tags items
  took_single v n h items takes free = takes.2.2.2.2.started.single refl free

  -- a bulk put that came through moved all items
  pub put_count : (v : View T) (h : Hand T S G H) (m : Moved) (items rest : List T)
      → PutHasTold {N = most} tags by_bulk ring plan v items (put.Done h m) rest → m.count ≡ length items
  put_count v h m items rest told =
      bulk_all tags most (length items) ring Put plan v (view h) told.0 m.count m.left [] (take m.count items) told.1 told.2.2

  pub put_all : (v : View T) (h : Hand T S G H) (m : Moved) (items rest : List T)
      → PutHasTold {N = most} tags by_bulk ring plan v items (put.Done h m) rest → (rest ≡ []) × Spills tags most ring plan v items (Ok h)
  put_all v h m items rest told =
      let is = told.2 in
      let none = none_behind m.count items (put_count v h m items rest told) in
      let gone = is.1 ∙ none in
      (gone, (m, subst (λ l. PutHasTold {N = most} tags by_bulk ring plan v items (put.Done h m) l) gone told))

  -- one that was refused, of items that the hand may put on a free ring: the ring is worn
  pub put_none : (v : View T) (h : Hand T S G H) (e : Refusal) (items rest : List T) → AreYours tags plan v items → plan.free ≡ true
      → (length items ≤ buffers_had tags v.pool v.party) → 0 < length items → length items ≤ most
      → (IsUnfinishedPut {N = most} (put.Refused h e) → ⊥)
      → PutHasTold {N = most} tags by_bulk ring plan v items (put.Refused h e) rest → (rest ≡ items) × Spills tags most ring plan v items (Err h)
  put_none v h NotYours items rest yours free few some fit final told = absurd (not_both tags plan v items yours told.2.0)
  put_none v h (Start (Busy x)) items rest yours free few some fit final told = absurd (final tt)
  put_none v h (Start (Contended x)) items rest yours free few some fit final told = absurd (final tt)
  put_none v h (Start (NoRoom left)) items rest yours free few some fit final told = absurd (told.2.5.1 refl free)
  put_none v h (Start Worn) items rest yours free few some fit final told =
      (told.2.1, subst (λ l. PutHasTold {N = most} tags by_bulk ring plan v items (put.Refused h (Start Worn)) l) told.2.1 told)
  put_none v h (Start BadCount) items rest yours free few some fit final told =
      absurd (told.2.5 (some, fit, λ side free_too. omega (arith, few, had_before tags most by_bulk (length items) ring Put plan v told.0 told.2.2 told.2.3)))

  -- what was put is the hand's own no more
  pub put_holds : (v : View T) (h : Hand T S G H) (items : List T) → Spills tags most ring plan v items (Ok h)
      → (b : ℕ) → holds tags b (view h).party ≡ holds tags b v.party - occurrences_in tags b items
  put_holds v h items spills b =
      let m = spills.0 in
      let told = spills.1 in
      let is = told.2.2 in
      let all : m.count ≡ length items = bulk_all tags most (length items) ring Put plan v (view h) told.0 m.count m.left [] (take m.count items) told.1 is in
      ap (holds tags b) (moved_party tags most by_bulk (length items) ring Put plan v (view h) told.0 m.count m.left [] (take m.count items) told.1 is)
      ∙ (holds_put tags b ring is.0 m.count v.party (take m.count items) ∙ ap (λ l. holds tags b v.party - occurrences_in tags b l)
      (all_first m.count items all))

  -- a refused request leaves the hand what it had
  pub none_party : (v : View T) (n : ℕ) (h : Hand T S G H) (e : StartFault) (items : List T)
      → TakeHasTold {N = most} tags by_bulk n ring plan v (taken.Refused h e) items → (view h).party ≡ v.party
  none_party v n h e items told =
      (refused_kept tags most by_bulk n ring Take plan told.2.1 (view h) e told.2.3).party
      ∙ starts_kept tags most by_bulk n ring Take plan v told.0 told.2.1 told.2.2

  pub kept_party : (v : View T) (h : Hand T S G H) (items : List T) → Spills tags most ring plan v items (Err h) → (view h).party ≡ v.party
  kept_party v h items told =
      (refused_kept tags most by_bulk (length items) ring Put plan told.2.2 (view h) Worn told.2.4).party
      ∙ starts_kept tags most by_bulk (length items) ring Put plan v told.0 told.2.2 told.2.3

module _ {T : Type 0} (tags : T → List ℕ) where
  -- a hand's items are its own to put on a free ring
  pub own_yours : (plan : RingPlan) (v : View T) (items : List T) → AreOwnBuffers tags v items → AreYours tags plan v items
  own_yours plan v items own = record { owned = own.0; single = λ free. own.1 }

  -- so are the first of them
  pub first_own : (v : View T) (items : List T) (k : ℕ) → AreOwnBuffers tags v items → AreOwnBuffers tags v (take k items)
  first_own v items k own = ((λ b. omega (arith, own.0 b, count_parts tags b k items)), single_take tags k items own.1)

  -- and what is left after the first of them were put
  pub left_own : (v w : View T) (items : List T) (k : ℕ) → AreOwnBuffers tags v items → HasLess tags v.party (take k items) w.party
      → AreOwnBuffers tags w (drop k items)
  left_own v w items k own less =
      ((λ b. omega (arith, own.0 b, less b, count_parts tags b k items)), single_drop tags k items own.1)
