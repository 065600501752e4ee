-- What a put answers, by what its start and its settle did
use Rattle.std.proofs.Common.{◌≡◌, ℕ, ◌<◌, List, [], ◌∷◌, drop, length, take, slice_get, Some, sym, refl, ap, ◌∙◌, subst, arith}
use Rattle.geom.specs.declared.plan.How.{How}
use Rattle.geom.specs.declared.plan.Mode.{Mode}
use Rattle.geom.specs.declared.plan.Mode.TheVariants.{Multi, Hts}
use Rattle.geom.specs.declared.plan.RingPlan.{RingPlan}
use Rattle.geom.specs.declared.plan.Side.TheVariants.{Put}
use Rattle.ringcore_laws.specs.declared.protocol.Span.{Span}
use Rattle.burst.specs.declared.tagged.Tagged.{Ghosts}
use Rattle.fabric.specs.declared.stored.Stored.{Ghosts as StoredGhosts}
use Rattle.fabric_laws.specs.declared.view.View.{View}
use Rattle.fabric_laws.specs.Changes.{settled}
use Rattle.fabric.specs.declared.fabric.Fabric.{Fabric}
use Rattle.fabric.specs.declared.hand.PutOpen.{PutOpen}
use Rattle.fabric.specs.declared.hand.SettleFault.{SettleFault}
use Rattle.fabric.specs.declared.hand.SettleFault.TheVariants.{BadCount, NotYet}
use Rattle.fabric.specs.declared.hand.SettleFault.TheVariants as settle
use Rattle.fabric.specs.declared.hand.StartFault.{StartFault}
use Rattle.fabric.specs.declared.hand.StartFault.TheVariants.{Worn}
use Rattle.fabric.specs.Hands.{IsHandOf, put_fabric, put_left, put_span, put_view, rings_of, view}
use Rattle.fabric.specs.Settles.{AreYours, IsCount, RefusesSettle}
use Rattle.fabric.specs.Views.{span_of}
use Rattle.fabric.proofs.Told.{refused_kept, worn_at}
use Rattle.ringapi.specs.declared.answers.PutAnswer.{PutAnswer}
use Rattle.ringapi.specs.declared.answers.PutAnswer.TheVariants.{Done, Refused, Open}
use Rattle.ringapi.specs.declared.answers.Refusal.{Refusal}
use Rattle.ringapi.specs.declared.answers.Refusal.TheVariants.{Start, NotYours}
use Rattle.ringapi.specs.Puts.{IsPutOf, IsUnfinishedPut, PutSettles, PutTells, SettlesPut, left_of, rest_by}
use Rattle.ringapi.specs.Views.{IsReserved}
use Rattle.ringapi.proofs.Tries.{moved_settles, reserved_settles, settle_again, starts_kept}
use Rattle.ringapi.proofs.Yours.{not_both}

-- all positions may be settled, of either mode
pub whole_count : (mode : Mode) (k count : ℕ) → k ≡ count → IsCount mode k count
whole_count Multi k count all = all
whole_count Hts k count all = omega (arith, all)

-- a settle of all positions with items that are the hand's to put is refused for one reason only
pub only_early : {T : Type 0} (tags : T → List ℕ) (mode : Mode) (plan : RingPlan) (k count start : ℕ) (items : List T) (v w : View T) (e : SettleFault)
    → k ≡ count → RefusesSettle tags mode plan k count start items v w e → AreYours tags plan v items → ((x : ℕ) → e ≡ NotYet x → ⊥) → ⊥
only_early tags mode plan k count start items v w BadCount all r yours early = r.0 (whole_count mode k count all)
only_early tags mode plan k count start items v w settle.NotYours all r yours early = not_both tags plan v items yours r.1
only_early tags mode plan k count start items v w (NotYet x) all r yours early = early x refl

-- the fault of a refused start
abbrev fault_of : Refusal → StartFault
fault_of (Start e) = e
fault_of NotYours = Worn

module _ {T : Type 0} {S : Type 0} {G : Ghosts T} {H : StoredGhosts S T} {N : ℕ} where
  -- the plan of an open span's ring
  pub plan_of : (o : PutOpen T N S G H) (f : Fabric T N S) (ring : ℕ) → put_fabric o ≡ f → (put_span o).ring ≡ ring
      → slice_get (rings_of f) ring ≡ Some o.ring.shape.now.plan
  plan_of o f ring same at = (λ i. slice_get (rings_of (sym same i)) (sym at i)) ∙ o.ring.in_plan.0

  -- a put that isn't finished left the list as it was
  pub unfinished_same : (after : List T → ℕ → List T) (answer : PutAnswer T N S G H) (items : List T) → IsUnfinishedPut answer → rest_by after answer items ≡ items
  unfinished_same after (Done h moved) items open_still = absurd open_still
  unfinished_same after (Refused h why) items open_still = refl
  unfinished_same after (Open o tail) items open_still = refl

  -- a burst has what is left to put
  pub rest_dropped : (answer : PutAnswer T N S G H) (items : List T) → rest_by (λ xs k. drop k xs) answer items ≡ left_of answer items
  rest_dropped (Done h moved) items = refl
  rest_dropped (Refused h why) items = refl
  rest_dropped (Open o tail) items = refl

  -- a settle keeps the fabric
  pub settled_of : (f : Fabric T N S) (ring : ℕ) (o : PutOpen T N S G H) (items : List T) (answer : PutAnswer T N S G H) (rest : List T) → put_fabric o ≡ f
      → (put_span o).ring ≡ ring → SettlesPut o items answer rest → IsPutOf f ring answer
  settled_of f ring o items (Done h moved) rest same at is = subst (λ (z : Fabric T N S). IsHandOf z h) same is.0.0
  settled_of f ring o items (Refused h why) rest same at is = absurd is
  settled_of f ring o items (Open q tail) rest same at is = (is.0.0 ∙ same, ap (λ s. s.ring) is.0.1 ∙ at)

  module _ (tags : T → List ℕ) (how : How) (ring : ℕ) (plan : RingPlan) (v : View T) (items : List T) (starts : List (View T × StartFault)) (tails : List ℕ)
    where
      -- a settle of a span that was reserved
      pub settled_tells : (o : PutOpen T N S G H) (answer : PutAnswer T N S G H) (rest : List T) → (put_span o).ring ≡ ring → o.ring.shape.now.plan ≡ plan
          → AreYours tags plan v items
          → IsReserved tags N how (length items) ring Put plan v starts (put_span o).start (put_span o).count (put_left o) [] tails (put_view o)
          → SettlesPut o items answer rest → PutTells tags how ring plan v items starts tails answer rest
      settled_tells o (Done h moved) rest at same yours is done = (
        yours,
        done.3,
        (
          (put_span o).start,
          put_view o,
          subst (λ (z : ℕ × ℕ). IsReserved tags N how (length items) ring Put plan v starts (put_span o).start z.0 z.1 [] tails (put_view o))
              (λ i. (sym done.1 i, sym done.2 i)) is,
          done.0.2 ∙ (λ i. settled (span_of (at i) Put (put_span o).start (sym done.1 i)) (take moved.count items) (put_view o)),
        ),
      )
      settled_tells o (Refused h why) rest at same yours is none = absurd none
      settled_tells o (Open q tail) rest at same yours is early = (
        yours,
        early.1,
        sym (ap (λ (p : RingPlan). p.put) same) ∙ early.2,
        subst (λ (s : Span). tail < s.start) (sym early.0.1) early.3,
        settle_again tags N how (length items) ring Put plan v starts (put_span q).start (put_span q).count (put_left q) [] tails (put_view o) (put_view q) tail
            (subst (λ (z : Span × ℕ). IsReserved tags N how (length items) ring Put plan v starts z.0.start z.0.count z.1 [] tails (put_view o))
            (λ i. (sym early.0.1 i, sym early.0.2 i)) is)
            early.4,
      )

      -- in short
      pub tells_settles : (f : Fabric T N S) (answer : PutAnswer T N S G H) (rest : List T) → slice_get (rings_of f) ring ≡ Some plan → IsPutOf f ring answer
          → PutTells tags how ring plan v items starts tails answer rest → PutSettles ring v items answer
      tells_settles f (Done h moved) rest at made is =
          moved_settles tags N how (length items) ring Put plan v starts moved.count moved.left [] tails (take moved.count items) (view h) is.2
      tells_settles f (Refused h (Start e)) rest at made is = (
        ap (λ p. p.settled) ((refused_kept tags N how (length items) ring Put plan is.2 (view h) e is.4).party
            ∙ starts_kept tags N how (length items) ring Put plan v starts is.2 is.3),
        λ worn.
            worn_at tags N how (length items) ring Put plan (rings_of f) is.2 (view h) e is.4 is.5 made.1 at (ap fault_of worn),
      )
      tells_settles f (Refused h NotYours) rest at made is = (
        ap (λ (u : View T). u.party.settled) is.2,
        λ worn. absurd (let u : NotYours ≡ Start Worn = worn in cc),
      )
      tells_settles f (Open o tail) rest at made is =
          reserved_settles tags N how (length items) ring Put plan v starts (put_span o).start (put_span o).count (put_left o) []
          (tail ∷ tails) (put_view o) is.4
