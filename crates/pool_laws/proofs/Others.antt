-- What a hand has after a put or a take on another ring, beside the buffers that it keeps back
use Rattle.std.specs.Prelude.{⊤}
use Rattle.std.proofs.Common.{◌≡◌, ℕ, ◌+◌, ◌-◌, ◌++◌, List, [], Some, Result, Err, length, refl, take, ap, subst, sym, ◌∙◌, arith}
use Rattle.geom.specs.declared.plan.How.{How}
use Rattle.geom.specs.declared.plan.Mode.TheVariants.{Hts, Multi}
use Rattle.geom.specs.declared.plan.RingPlan.{RingPlan}
use Rattle.geom.specs.declared.plan.Side.TheVariants.{Put, Take}
use Rattle.ringcore_laws.specs.FreeRings.{AreSingle}
use Rattle.ringcore_laws.specs.Sound.{holds, occurrences_in}
use Rattle.burst.specs.declared.tagged.Tagged.{Ghosts}
use Rattle.fabric.specs.declared.stored.Stored.{Ghosts as StoredGhosts}
use Rattle.fabric_laws.specs.declared.view.View.{View}
use Rattle.fabric_laws.specs.Kinds.{IsHeldOnce}
use Rattle.fabric.specs.declared.hand.Hand.{Hand}
use Rattle.fabric.specs.declared.hand.StartFault.{StartFault}
use Rattle.fabric.specs.declared.hand.cache_hand.CacheHand.{CacheHand}
use Rattle.fabric.specs.Hands.{view}
use Rattle.fabric.specs.CacheHands.{view_of_cache_hand}
use Rattle.fabric.specs.Settles.{AreOwnBuffers, AreYours}
use Rattle.fabric.proofs.Holding.{holds_put, holds_take}
use Rattle.fabric.proofs.Told.{refused_kept}
use Rattle.ringapi.specs.declared.answers.Moved.{Moved}
use Rattle.ringapi.specs.declared.answers.PutAnswer.{PutAnswer}
use Rattle.ringapi.specs.declared.answers.PutAnswer.TheVariants as put
use Rattle.ringapi.specs.declared.answers.Refusal.{Refusal}
use Rattle.ringapi.specs.declared.answers.Refusal.TheVariants.{Start, NotYours}
use Rattle.ringapi.specs.declared.answers.TakeAnswer.{TakeAnswer}
use Rattle.ringapi.specs.declared.answers.TakeAnswer.TheVariants as taken
use Rattle.ringapi.specs.Puts.{IsUnfinishedPut, PutHasTold, left_of}
use Rattle.ringapi.specs.Takes.{IsUnfinishedTake, TakeHasTold}
use Rattle.ringapi.proofs.Tries.{starts_kept}
use Rattle.ringapi.proofs.Yours.{not_both}
use Rattle.pool_laws.specs.Beside.{IsPutBeside, IsTakenBeside, PutOwns, Receives, Sends, TakeOwns, unsent_of}
use Rattle.ringapi.proofs.Moves.{moved_party}
use Rattle.ringapi.proofs.Counts.{count_both, count_parts}
use Rattle.ringapi.proofs.Singles.{single_later}

-- items that the hand may put beside those of its cache
pub yours_later : {T : Type 0} (tags : T → List ℕ) (plan : RingPlan) (v w : View T) (cache items : List T) → w ≡ v → AreYours tags plan v (cache ++ items)
    → AreYours tags plan w items
yours_later tags plan v w cache items is yours = record {
  owned = λ b. omega (arith, yours.owned b, count_both tags b cache items, ap (λ u. holds tags b u.party) is);
  single = λ free. single_later tags cache items (yours.single free);
}

module _ {T : Type 0} {S : Type 0} {G : Ghosts T} {H : StoredGhosts S T} (tags : T → List ℕ) where
  module _ (how : How) (most ring : ℕ) (plan : RingPlan) (v : View T) (h : Hand T S G H) where
    -- what is cached is the hand's own after items beside it were put
    pub sent_own : (k : CacheHand T S G H) (cache items rest : List T) (m : Moved) → v ≡ view_of_cache_hand k → AreSingle tags cache
        → AreYours tags plan (view_of_cache_hand k) (cache ++ items) → PutHasTold {N = most} tags how ring plan v items (put.Done h m) rest
        → AreOwnBuffers tags (view h) cache
    sent_own k cache items rest m is single yours told = (
      (λ b.
          let moved = told.2.2 in
          let now : holds tags b (view h).party ≡ holds tags b v.party - occurrences_in tags b (take m.count items) =
          ap (holds tags b) (moved_party tags most how (length items) ring Put plan v (view h) told.0 m.count m.left [] (take m.count items) told.1 moved)
          ∙ holds_put tags b ring moved.0 m.count v.party (take m.count items) in
          omega (arith, now, yours.owned b, count_both tags b cache items, count_parts tags b m.count items, ap (λ w. holds tags b w.party) is)),
      single,
    )

    pub unsent_party : (items rest : List T) (e : Refusal) → PutHasTold {N = most} tags how ring plan v items (put.Refused h e) rest
        → (view h).party ≡ v.party
    unsent_party items rest NotYours told = ap (λ w. w.party) told.2.2
    unsent_party items rest (Start e) told =
        (refused_kept tags most how (length items) ring Put plan told.2.2 (view h) e told.2.4).party
        ∙ starts_kept tags most how (length items) ring Put plan v told.0 told.2.2 told.2.3

    -- so is it after a take
    pub received_own : (k : CacheHand T S G H) (n pool : ℕ) (cache items : List T) (m : Moved) → v ≡ view_of_cache_hand k → AreOwnBuffers tags (view_of_cache_hand k) cache
        → IsHeldOnce tags pool v.party → TakeHasTold {N = most} tags how n ring plan v (taken.Done h m) items → AreOwnBuffers tags (view h) cache
    received_own k n pool cache items m is own once told = (
      (λ b.
          let moved = told.2.2 in
          let now : holds tags b (view h).party ≡ holds tags b v.party + occurrences_in tags b items =
          ap (holds tags b) (moved_party tags most how n ring Take plan v (view h) told.0 m.count m.left items items told.1 moved)
          ∙ holds_take tags b ring moved.0 m.count v.party items (once b).2 in
          omega (arith, now, own.0 b, ap (λ w. holds tags b w.party) is)),
      own.1,
    )

    pub unreceived_party : (n : ℕ) (items : List T) (e : StartFault) → TakeHasTold {N = most} tags how n ring plan v (taken.Refused h e) items
        → (view h).party ≡ v.party
    unreceived_party n items e told =
        (refused_kept tags most how n ring Take plan told.2.1 (view h) e told.2.3).party
        ∙ starts_kept tags most how n ring Take plan v told.0 told.2.1 told.2.2

  -- a put of such items that was refused
  pub unsent : (how : How) (most ring : ℕ) (plan : RingPlan) (k l : CacheHand T S G H) (h : Hand T S G H) (cache items rest : List T) (e : Refusal)
      → AreYours tags plan (view_of_cache_hand k) (cache ++ items) → PutHasTold {N = most} tags how ring plan (view_of_cache_hand k) items (put.Refused h e) rest
      → view_of_cache_hand l ≡ view h → Sends tags how most ring plan (Some k) (Some l) cache items (Err e) rest
  unsent how most ring plan k l h cache items rest NotYours yours told is =
      absurd (not_both tags plan (view_of_cache_hand k) items (yours_later tags plan (view_of_cache_hand k) (view_of_cache_hand k) cache items refl yours) told.2.0)
  unsent how most ring plan k l h cache items rest (Start fault) yours told is = (h, told, is)

  -- what is cached is the hand's own while its party is the same
  pub kept_own : (k : CacheHand T S G H) (h : Hand T S G H) (cache : List T) → (view h).party ≡ (view_of_cache_hand k).party
      → AreOwnBuffers tags (view_of_cache_hand k) cache → AreOwnBuffers tags (view h) cache
  kept_own k h cache is own = ((λ b. omega (arith, own.0 b, ap (holds tags b) is)), own.1)

  -- an answer with an open span
  abbrev pub IsOpenPut : {N : ℕ} → PutAnswer T N S G H → Type 0
  IsOpenPut (put.Done h moved) = ⊥
  IsOpenPut (put.Refused h why) = ⊥
  IsOpenPut (put.Open o tail) = ⊤

  abbrev pub IsOpenTake : {N : ℕ} → TakeAnswer T N S G H → Type 0
  IsOpenTake (taken.Done h moved) = ⊥
  IsOpenTake (taken.Refused h why) = ⊥
  IsOpenTake (taken.Open o tail) = ⊤

  -- a put that is finished has none, and so has one on a head/tail-sync side
  pub finished_put : {N : ℕ} (answer : PutAnswer T N S G H) → (IsUnfinishedPut answer → ⊥) → IsOpenPut answer → ⊥
  finished_put (put.Done h moved) final it = it
  finished_put (put.Refused h why) final it = it
  finished_put (put.Open o tail) final it = final tt

  pub finished_take : {N : ℕ} (answer : TakeAnswer T N S G H) → (IsUnfinishedTake answer → ⊥) → IsOpenTake answer → ⊥
  finished_take (taken.Done h moved) final it = it
  finished_take (taken.Refused h why) final it = it
  finished_take (taken.Open o tail) final it = final tt

  module _ (how : How) (most ring : ℕ) (plan : RingPlan) where
    pub hts_put : (v : View T) (items rest : List T) (answer : PutAnswer T most S G H) → plan.put ≡ Hts
        → PutHasTold tags how ring plan v items answer rest → IsOpenPut answer → ⊥
    hts_put v items rest (put.Done h moved) hts told it = it
    hts_put v items rest (put.Refused h why) hts told it = it
    hts_put v items rest (put.Open o tail) hts told it = absurd (let z : Multi ≡ Hts = sym told.2.2 ∙ hts in cc)

    pub hts_take : (v : View T) (n : ℕ) (items : List T) (answer : TakeAnswer T most S G H) → plan.take ≡ Hts
        → TakeHasTold tags how n ring plan v answer items → IsOpenTake answer → ⊥
    hts_take v n items (taken.Done h moved) hts told it = it
    hts_take v n items (taken.Refused h why) hts told it = it
    hts_take v n items (taken.Open o tail) hts told it = absurd (let z : Multi ≡ Hts = sym told.2.1 ∙ hts in cc)

    -- what is cached is the hand's own after a put of items beside it that left no span open
    pub put_owns : (v : View T) (k : CacheHand T S G H) (cache items rest : List T) (answer : PutAnswer T most S G H)
        → v ≡ view_of_cache_hand k → AreOwnBuffers tags (view_of_cache_hand k) cache → AreYours tags plan (view_of_cache_hand k) (cache ++ items)
        → (IsOpenPut answer → ⊥) → PutHasTold tags how ring plan v items answer rest → PutOwns tags cache answer
    put_owns v k cache items rest (put.Done h moved) is own yours closed told =
        sent_own how most ring plan v h k cache items rest moved is own.1 yours told
    put_owns v k cache items rest (put.Refused h why) is own yours closed told =
        kept_own k h cache (unsent_party how most ring plan v h items rest why told ∙ ap (λ w. w.party) is) own
    put_owns v k cache items rest (put.Open o tail) is own yours closed told = closed tt

    -- so it is after a take
    pub take_owns : (v : View T) (k : CacheHand T S G H) (n pool : ℕ) (cache items : List T) (answer : TakeAnswer T most S G H)
        → v ≡ view_of_cache_hand k → AreOwnBuffers tags (view_of_cache_hand k) cache → IsHeldOnce tags pool v.party
        → (IsOpenTake answer → ⊥) → TakeHasTold tags how n ring plan v answer items → TakeOwns tags cache answer
    take_owns v k n pool cache items (taken.Done h moved) is own once closed told =
        received_own how most ring plan v h k n pool cache items moved is own once told
    take_owns v k n pool cache items (taken.Refused h why) is own once closed told =
        kept_own k h cache (unreceived_party how most ring plan v h n items why told ∙ ap (λ w. w.party) is) own
    take_owns v k n pool cache items (taken.Open o tail) is own once closed told = closed tt

    -- the answer of a put of items beside it is what a cache sends
    pub sends_beside : (v : View T) (k l : CacheHand T S G H) (cache items rest : List T) (answer : PutAnswer T most S G H)
        (result : Result Moved Refusal) → v ≡ view_of_cache_hand k → AreYours tags plan (view_of_cache_hand k) (cache ++ items)
        → PutHasTold tags how ring plan v items answer rest → IsPutBeside answer l result
        → Sends tags how most ring plan (Some k) (Some l) cache items result rest
    sends_beside v k l cache items rest (put.Done h moved) result is yours told same =
        subst (λ r. Sends tags how most ring plan (Some k) (Some l) cache items r rest) (sym same.1)
        (h, subst (λ w. PutHasTold {N = most} tags how ring plan w items (put.Done h moved) rest) is told, ap (λ s. s.me.0) same.0)
    sends_beside v k l cache items rest (put.Refused h why) result is yours told same =
        subst (λ r. Sends tags how most ring plan (Some k) (Some l) cache items r rest) (sym same.1)
        (unsent how most ring plan k l h cache items rest why yours
        (subst (λ w. PutHasTold {N = most} tags how ring plan w items (put.Refused h why) rest) is told) (ap (λ s. s.me.0) same.0))
    sends_beside v k l cache items rest (put.Open o tail) result is yours told same = absurd same

    -- the answer of a take is what a cache receives
    pub receives_beside : (v : View T) (k l : CacheHand T S G H) (n : ℕ) (items : List T) (answer : TakeAnswer T most S G H)
        (result : Result Moved StartFault) → v ≡ view_of_cache_hand k
        → TakeHasTold tags how n ring plan v answer items → IsTakenBeside answer l result
        → Receives tags how most ring plan (Some k) (Some l) n result items
    receives_beside v k l n items (taken.Done h moved) result is told same =
        subst (λ r. Receives tags how most ring plan (Some k) (Some l) n r items) (sym same.1)
        (h, subst (λ w. TakeHasTold {N = most} tags how n ring plan w (taken.Done h moved) items) is told, ap (λ s. s.me.0) same.0)
    receives_beside v k l n items (taken.Refused h why) result is told same =
        subst (λ r. Receives tags how most ring plan (Some k) (Some l) n r items) (sym same.1)
        (h, subst (λ w. TakeHasTold {N = most} tags how n ring plan w (taken.Refused h why) items) is told, ap (λ s. s.me.0) same.0)
    receives_beside v k l n items (taken.Open o tail) result is told same = absurd same

-- what a put from a slice leaves, by its answer and by what a cache returns
pub left_unsent : {T : Type 0} {S : Type 0} {G : Ghosts T} {H : StoredGhosts S T} {N : ℕ} (answer : PutAnswer T N S G H) (k : CacheHand T S G H)
    (result : Result Moved Refusal) (items : List T) → IsPutBeside answer k result → left_of answer items ≡ unsent_of result items
left_unsent (put.Done h moved) k result items same = ap (λ r. unsent_of r items) (sym same.1)
left_unsent (put.Refused h why) k result items same = ap (λ r. unsent_of r items) (sym same.1)
left_unsent (put.Open o tail) k result items same = absurd same
