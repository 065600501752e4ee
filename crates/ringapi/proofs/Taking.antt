-- What a take answers, by what its start and its settle did
use Rattle.std.proofs.Common.{◌≡◌, ℕ, ◌<◌, List, [], ◌∷◌, length, slice_get, Some, sym, refl, ap, ◌∙◌, subst}
use Rattle.geom.specs.declared.plan.How.{How}
use Rattle.geom.specs.declared.plan.Mode.{Mode}
use Rattle.geom.specs.declared.plan.RingPlan.{RingPlan}
use Rattle.geom.specs.declared.plan.Side.TheVariants.{Take}
use Rattle.ringcore_laws.specs.declared.protocol.Span.{Span}
use Rattle.burst.specs.declared.tagged.Tagged.{Ghosts}
use Rattle.fabric.specs.declared.stored.Stored.{Ghosts as StoredGhosts}
use Rattle.fabric_laws.specs.declared.view.View.{View}
use Rattle.fabric_laws.specs.Changes.{settled}
use Rattle.fabric.specs.declared.fabric.Fabric.{Fabric}
use Rattle.fabric.specs.declared.hand.Hand.{Hand}
use Rattle.fabric.specs.declared.hand.TakeOpenLent.{TakeOpenLent}
use Rattle.fabric.specs.declared.hand.SettleFault.{SettleFault}
use Rattle.fabric.specs.declared.hand.SettleFault.TheVariants.{BadCount, NotYet, NotYours}
use Rattle.fabric.specs.declared.hand.StartFault.{StartFault}
use Rattle.fabric.specs.Hands.{IsHandOf, rings_of, take_fabric, take_left, take_span, take_view, view}
use Rattle.fabric.specs.Settles.{RefusesSettle}
use Rattle.fabric.specs.Views.{span_of}
use Rattle.fabric.proofs.Told.{refused_kept, worn_at}
use Rattle.ringapi.specs.declared.answers.TakeAnswer.{TakeAnswer}
use Rattle.ringapi.specs.declared.answers.TakeAnswer.TheVariants.{Done, Refused, Open}
use Rattle.ringapi.specs.Takes.{IsTakeOf, SettlesTake, TakeHasTold, TakeSettles, TakeTells}
use Rattle.ringapi.specs.Views.{IsReserved, IsTransient, RefusedStarts}
use Rattle.ringapi.proofs.Again.{reserved_after}
use Rattle.ringapi.proofs.Putting.{whole_count}
use Rattle.ringapi.proofs.Tries.{moved_settles, reserved_settles, settle_again, starts_kept}

-- a take of all positions is refused for one reason only
pub only_early : {T : Type 0} (tags : T → List ℕ) (mode : Mode) (plan : RingPlan) (k count start : ℕ) (items : List T) (v w : View T) (e : SettleFault)
    → k ≡ count → RefusesSettle tags mode plan k count start items v w e → (e ≡ NotYours → ⊥) → ((x : ℕ) → e ≡ NotYet x → ⊥) → ⊥
only_early tags mode plan k count start items v w BadCount all r other early = r.0 (whole_count mode k count all)
only_early tags mode plan k count start items v w NotYours all r other early = other refl
only_early tags mode plan k count start items v w (NotYet x) all r other early = early x refl

module _ {T : Type 0} {S : Type 0} {G : Ghosts T} {H : StoredGhosts S T} {N : ℕ} where
  -- the plan of an open span's ring
  pub plan_of : (o : TakeOpenLent T N S G H) (f : Fabric T N S) (ring : ℕ) → take_fabric o ≡ f → (take_span o).ring ≡ ring
      → slice_get (rings_of f) ring ≡ Some o.ring.shape.now.plan
  plan_of o f ring same at = (λ i. slice_get (rings_of (sym same i)) (sym at i)) ∙ o.ring.in_plan.0

  -- a settle keeps the fabric
  pub settled_of : (tags : T → List ℕ) (f : Fabric T N S) (ring : ℕ) (o : TakeOpenLent T N S G H) (items : List T) (answer : TakeAnswer T N S G H) (rest : List T)
      → take_fabric o ≡ f → (take_span o).ring ≡ ring → SettlesTake tags o items answer rest → IsTakeOf f ring answer
  settled_of tags f ring o items (Done h moved) rest same at is = subst (λ (z : Fabric T N S). IsHandOf z h) same is.0
  settled_of tags f ring o items (Refused h e) rest same at is = absurd is
  settled_of tags f ring o items (Open q tail) rest same at is = (is.0.0 ∙ same, ap (λ s. s.ring) is.0.1 ∙ at)

module _ {T : Type 0} {S : Type 0} {G : Ghosts T} {H : StoredGhosts S T} (N : ℕ) (tags : T → List ℕ) (how : How) (n ring : ℕ) (plan : RingPlan) (v : View T) where
  module _ (starts : List (View T × StartFault)) (tails : List ℕ) where
    -- a settle of a span that was reserved
    pub settled_tells : (o : TakeOpenLent T N S G H) (items : List T) (answer : TakeAnswer T N S G H) (rest : List T) → (take_span o).ring ≡ ring
        → o.ring.shape.now.plan ≡ plan → items ≡ (take_view o).shown
        → IsReserved tags N how n ring Take plan v starts (take_span o).start (take_span o).count (take_left o) items tails (take_view o)
        → SettlesTake tags o items answer rest → TakeTells tags how n ring plan v starts tails answer rest
    settled_tells o items (Done h moved) rest at same shows is done = (
      ap length done.5 ∙ done.2,
      done.6,
      (
        (take_span o).start,
        take_view o,
        subst (λ (z : ℕ × ℕ × List T). IsReserved tags N how n ring Take plan v starts (take_span o).start z.0 z.1 z.2 tails (take_view o))
            (λ i. (sym done.3 i, sym done.4 i, sym done.5 i)) is,
        done.1 ∙ (λ i. settled (span_of (at i) Take (take_span o).start (sym done.3 i)) (sym done.5 i) (take_view o)),
      ),
    )
    settled_tells o items (Refused h e) rest at same shows is none = absurd none
    settled_tells o items (Open q tail) rest at same shows is early = (
      early.1 ∙ (shows ∙ sym early.0.3),
      sym (ap (λ (p : RingPlan). p.take) same) ∙ early.2,
      subst (λ (s : Span). tail < s.start) (sym early.0.1) early.3,
      settle_again tags N how n ring Take plan v starts (take_span q).start (take_span q).count (take_left q) rest tails (take_view o) (take_view q) tail
          (subst (λ (z : Span × ℕ × List T). IsReserved tags N how n ring Take plan v starts z.0.start z.0.count z.1 z.2 tails (take_view o))
          (λ i. (sym early.0.1 i, sym early.0.2 i, sym early.1 i)) is)
          early.4,
    )

    -- in short
    pub tells_settles : (f : Fabric T N S) (answer : TakeAnswer T N S G H) (items : List T) → slice_get (rings_of f) ring ≡ Some plan → IsTakeOf f ring answer
        → TakeTells tags how n ring plan v starts tails answer items → TakeSettles ring v answer items
    tells_settles f (Done h moved) items at made is =
        moved_settles tags N how n ring Take plan v starts moved.count moved.left items tails items (view h) is.2
    tells_settles f (Refused h e) items at made is = (
      ap (λ p. p.settled) ((refused_kept tags N how n ring Take plan is.1 (view h) e is.3).party ∙ starts_kept tags N how n ring Take plan v starts is.1 is.2),
      worn_at tags N how n ring Take plan (rings_of f) is.1 (view h) e is.3 is.4 made.1 at,
    )
    tells_settles f (Open o tail) items at made is =
        reserved_settles tags N how n ring Take plan v starts (take_span o).start (take_span o).count (take_left o) items (tail ∷ tails) (take_view o) is.3

  -- a take that was refused as it started, and one more try
  take_after : (w : View T) (starts : List (View T × StartFault)) (answer : TakeAnswer T N S G H) (items : List T)
      → RefusedStarts tags N how n ring Take plan v starts w → TakeTells tags how n ring plan w [] [] answer items
      → TakeTells tags how n ring plan v starts [] answer items
  take_after w starts (Done h moved) items before is = (
    is.0,
    is.1,
    (is.2.0, is.2.1, reserved_after tags N how n ring Take plan v w is.2.1 starts is.2.0 moved.count moved.left items [] before is.2.2, is.2.3),
  )
  take_after w starts (Refused h e) items before is = (
    is.0,
    is.1,
    subst (RefusedStarts tags N how n ring Take plan v starts) (sym is.2) before,
    is.3,
    is.4,
  )
  take_after w starts (Open o tail) items before is = (
    is.0,
    is.1,
    is.2,
    reserved_after tags N how n ring Take plan v w (take_view o) starts (take_span o).start (take_span o).count (take_left o) items (tail ∷ []) before is.3,
  )

  abbrev pub refused_take : Hand T S G H → StartFault → TakeAnswer T N S G H
  refused_take h e = Refused h e

  pub take_again : (h : Hand T S G H) (e : StartFault) (had items : List T) (answer : TakeAnswer T N S G H) → IsTransient e
      → TakeHasTold tags how n ring plan v (refused_take h e) had → TakeTells tags how n ring plan (view h) [] [] answer items
      → TakeHasTold tags how n ring plan v answer items
  take_again h e had items answer open_still told is =
      let before = told.2 in
      ((before.1, e) ∷ told.0, [], take_after (view h) ((before.1, e) ∷ told.0) answer items (before.3, open_still, before.2) is)

  pub settle_more : (o : TakeOpenLent T N S G H) (tail : ℕ) (had items : List T) (answer : TakeAnswer T N S G H) → (take_span o).ring ≡ ring
      → o.ring.shape.now.plan ≡ plan → TakeHasTold tags how n ring plan v (Open o tail) had → SettlesTake tags o had answer items
      → TakeHasTold tags how n ring plan v answer items
  settle_more o tail had items answer at same told is =
      let before = told.2 in
      (told.0, tail ∷ told.1, settled_tells told.0 (tail ∷ told.1) o had answer items at same before.0 before.3 is)

  -- a take that was refused moved nothing
  pub none_shown : (h : Hand T S G H) (e : StartFault) (had : List T) → TakeHasTold tags how n ring plan v (refused_take h e) had → had ≡ []
  none_shown h e had told = told.2.0
