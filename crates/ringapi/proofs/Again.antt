-- A try after tries that were refused
use Rattle.std.proofs.Common.{◌≡◌, ◌≤◌, ℕ, List, [], ◌∷◌, length, take, sym, ap, ◌∙◌, subst, arith}
use Rattle.geom.specs.declared.plan.How.{How}
use Rattle.geom.specs.declared.plan.RingPlan.{RingPlan}
use Rattle.geom.specs.declared.plan.Side.{Side}
use Rattle.geom.specs.declared.plan.Side.TheVariants.{Put}
use Rattle.burst.specs.declared.tagged.Tagged.{Ghosts}
use Rattle.fabric.specs.declared.stored.Stored.{Ghosts as StoredGhosts}
use Rattle.fabric_laws.specs.declared.view.View.{View}
use Rattle.fabric.specs.declared.hand.Hand.{Hand}
use Rattle.fabric.specs.declared.hand.PutOpen.{PutOpen}
use Rattle.fabric.specs.declared.hand.StartFault.{StartFault}
use Rattle.fabric.specs.Hands.{put_left, put_span, put_view, view}
use Rattle.fabric.specs.Settles.{AreYours}
use Rattle.fabric.proofs.Told.{refused_kept}
use Rattle.ringapi.specs.declared.answers.PutAnswer.{PutAnswer}
use Rattle.ringapi.specs.declared.answers.PutAnswer.TheVariants.{Done, Refused, Open}
use Rattle.ringapi.specs.declared.answers.Refusal.{Refusal}
use Rattle.ringapi.specs.declared.answers.Refusal.TheVariants.{Start, NotYours}
use Rattle.ringapi.specs.Puts.{IsUnfinishedPut, PutHasTold, PutTells, SettlesPut}
use Rattle.ringapi.specs.Views.{IsReserved, RefusedStarts}
use Rattle.ringapi.proofs.Putting.{settled_tells}
use Rattle.ringapi.proofs.Tries.{count_few, reserved_party, starts_kept}
use Rattle.ringapi.proofs.Yours.{first_yours, kept_yours, not_both, opened_yours}

module _ {T : Type 0} (tags : T → List ℕ) (most : ℕ) (how : How) (n ring : ℕ) (side : Side) (plan : RingPlan) where
  -- what a try finds after starts that were refused
  pub reserved_after : (v w u : View T) (starts : List (View T × StartFault)) (start count left : ℕ) (shown : List T) (tails : List ℕ)
      → RefusedStarts tags most how n ring side plan v starts w → IsReserved tags most how n ring side plan w [] start count left shown tails u
      → IsReserved tags most how n ring side plan v starts start count left shown tails u
  reserved_after v w u starts start count left shown tails before is = record {
    seen = is.seen;
    opened = is.opened;
    tried = subst (RefusedStarts tags most how n ring side plan v starts) (sym is.tried) before;
    started = is.started;
    view = is.view;
  }

  pub reserved_few : (v u : View T) (starts : List (View T × StartFault)) (start count left : ℕ) (shown : List T) (tails : List ℕ)
      → IsReserved tags most how n ring side plan v starts start count left shown tails u → count ≤ n
  reserved_few v u starts start count left shown tails is =
      count_few tags most how n ring side plan is.seen start count left shown is.opened is.started

abbrev refused_as : {T : Type 0} {S : Type 0} {G : Ghosts T} {H : StoredGhosts S T} (N : ℕ) → Hand T S G H → Refusal → PutAnswer T N S G H
refused_as N h why = Refused h why

module _ {T : Type 0} {S : Type 0} {G : Ghosts T} {H : StoredGhosts S T} (N : ℕ) (tags : T → List ℕ) (how : How) (ring : ℕ) (plan : RingPlan) (v : View T) (items : List T) where
  -- a put that was refused as it started, and one more try
  put_after : (w : View T) (starts : List (View T × StartFault)) (answer : PutAnswer T N S G H) (rest : List T) → AreYours tags plan v items
      → AreYours tags plan w items → RefusedStarts tags N how (length items) ring Put plan v starts w
      → PutTells tags how ring plan w items [] [] answer rest → PutTells tags how ring plan v items starts [] answer rest
  put_after w starts (Done h moved) rest yours now before is = (
    yours,
    is.1,
    (is.2.0, is.2.1, reserved_after tags N how (length items) ring Put plan v w is.2.1 starts is.2.0 moved.count moved.left [] [] before is.2.2, is.2.3),
  )
  put_after w starts (Refused h (Start e)) rest yours now before is = (
    yours,
    is.1,
    is.2,
    subst (RefusedStarts tags N how (length items) ring Put plan v starts) (sym is.3) before,
    is.4,
    is.5,
  )
  put_after w starts (Refused h NotYours) rest yours now before is = absurd (not_both tags plan w items now is.0)
  put_after w starts (Open o tail) rest yours now before is = (
    yours,
    is.1,
    is.2,
    is.3,
    reserved_after tags N how (length items) ring Put plan v w (put_view o) starts (put_span o).start (put_span o).count (put_left o)
        [] (tail ∷ []) before is.4,
  )

  -- what was the hand's to put before a refused start is so after it
  pub refused_yours : (h : Hand T S G H) (why : Refusal) (rest : List T) → IsUnfinishedPut (refused_as N h why)
      → PutHasTold tags how ring plan v items (refused_as N h why) rest → AreYours tags plan (view h) items
  refused_yours h (Start e) rest open_still told =
      let is = told.2 in
      kept_yours tags plan v (view h) items ((refused_kept tags N how (length items) ring Put plan is.2 (view h) e is.4).party
      ∙ starts_kept tags N how (length items) ring Put plan v told.0 is.2 is.3) is.0
  refused_yours h NotYours rest open_still told = absurd open_still

  pub put_again : (h : Hand T S G H) (why : Refusal) (had rest : List T) (answer : PutAnswer T N S G H) → IsUnfinishedPut (refused_as N h why)
      → PutHasTold tags how ring plan v items (refused_as N h why) had → PutTells tags how ring plan (view h) had [] [] answer rest
      → PutHasTold tags how ring plan v items answer rest
  put_again h NotYours had rest answer open_still told is = absurd open_still
  put_again h (Start e) had rest answer open_still told is =
      let before = told.2 in (
        (before.2, e) ∷ told.0,
        [],
        put_after (view h) ((before.2, e) ∷ told.0) answer rest before.0 (refused_yours h (Start e) had open_still told) (before.4, open_still, before.3)
            (subst (λ l. PutTells tags how ring plan (view h) l [] [] answer rest) before.1 is),
      )

  -- a put whose span is open, and one more settle
  pub open_first : (o : PutOpen T N S G H) (tail : ℕ) (had : List T) → PutHasTold tags how ring plan v items (Open o tail) had → (put_span o).ring ≡ ring
      → ((put_span o).count ≤ length had) × AreYours tags plan (put_view o) (take (put_span o).count had)
  open_first o tail had told at =
      let is = told.2 in
      let few : (put_span o).count ≤ length had =
      omega (
        arith,
        reserved_few tags N how (length items) ring Put plan v (put_view o) told.0 (put_span o).start (put_span o).count (put_left o) [] (tail ∷ told.1) is.4,
        ap length is.1,
      ) in
      let party = reserved_party tags N how (length items) ring Put plan v told.0 (put_span o).start (put_span o).count (put_left o) [] (tail ∷ told.1)
      (put_view o) is.4 in (
        few,
        first_yours tags plan (put_view o) had (put_span o).count
            (subst (AreYours tags plan (put_view o)) (sym is.1) (opened_yours tags plan v (put_view o) items _ party is.0)),
      )

  pub settle_more : (o : PutOpen T N S G H) (tail : ℕ) (had rest : List T) (answer : PutAnswer T N S G H) → (put_span o).ring ≡ ring → o.ring.shape.now.plan ≡ plan
      → PutHasTold tags how ring plan v items (Open o tail) had → SettlesPut o had answer rest → PutHasTold tags how ring plan v items answer rest
  settle_more o tail had rest answer at same told is =
      let before = told.2 in (
        told.0,
        tail ∷ told.1,
        settled_tells tags how ring plan v items told.0 (tail ∷ told.1) o answer rest at same before.0 before.4
            (subst (λ l. SettlesPut o l answer rest) before.1 is),
      )
