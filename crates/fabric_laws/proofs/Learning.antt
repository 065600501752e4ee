-- What a hand may learn about itself at any moment: what it holds doesn't clash, even if two hands were made one
use Rattle.std.proofs.Common.{◌≡◌, ℕ, zero, suc, ◌+◌, ◌<◌, ◌≤◌, List, [], ◌∷◌, ◌++◌, length, refl, sym, ap, ◌∙◌, subst, arith, inl, inr, Option}
use Rattle.std.specs.Prelude.{slice_get, slice_index_or, Some}
use mathlib.Core.Option.{none, some}
use lib.ListN.{get_elem?}
use Rattle.std.specs.List.{flat_map, range_with_len}
use Rattle.std.proofs.lemmas.List.{length-append}
use Rattle.atomic_table.specs.Table.{Allows, Me, keeps, step}
use Rattle.geom.specs.declared.plan.Side.{Side}
use Rattle.geom.specs.declared.plan.Side.TheVariants.{Put, Take}
use Rattle.geom.specs.declared.plan.RingPlan.{RingPlan}
use Rattle.ringcore_laws.specs.declared.party.Party.{Party}
use Rattle.ringcore_laws.specs.RingSide.{IsGapless, RingSide, party_items, listed, side_of}
use Rattle.ringcore_laws.specs.Sound.{SoundRing}
use Rattle.ringcore_laws.proofs.RingLaws.{below_or_not, length-listed}
use Rattle.fabric_laws.specs.declared.view.View.{View}
use Rattle.fabric_laws.specs.Rule.{IsConsistent, parties_of_views}
use Rattle.fabric_laws.specs.Changes.{loaded}
use Rattle.fabric_laws.specs.Kinds.{IsApart, IsHeldOnce, learn_tells}
use Rattle.fabric_laws.proofs.Closing.{whole}
use Rattle.fabric_laws.proofs.Cells.{get_left}
use Rattle.fabric_laws.proofs.Steps.{St, held_once, ring_sound, stays}
use Rattle.fabric_laws.proofs.Views.{parts_within, party_here, party_within}

-- parts of a list of lists

module _ {A B : Type 0} (f : A → List B) where
  part_le : (xs : List A) (i : ℕ) (d : A) → i < length xs → length (f (slice_index_or xs i d)) ≤ length (flat_map f xs)
  part_le [] i d lt = absurd (omega arith)
  part_le (x ∷ xs) zero d lt = omega (arith, length-append (f x) (flat_map f xs))
  part_le (x ∷ xs) (suc i) d lt = omega (arith, length-append (f x) (flat_map f xs), part_le xs i d (omega arith))

  nothing : (ys : List B) → length ys ≤ 0 → ys ≡ []
  nothing [] le = refl
  nothing (y ∷ ys) le = absurd (omega arith)

  part_all : (xs : List A) (i : ℕ) (d : A) (y : B) → i < length xs → length (flat_map f xs) ≤ 1 → f (slice_index_or xs i d) ≡ y ∷ [] → flat_map f xs ≡ y ∷ []
  part_all [] i d y lt le is = absurd (omega arith)
  part_all (x ∷ xs) zero d y lt le is =
      let none : flat_map f xs ≡ [] = nothing (flat_map f xs) (omega (arith, le, length-append (f x) (flat_map f xs), ap length is)) in
      (λ k. is k ++ none k)
  part_all (x ∷ xs) (suc i) d y lt le is =
      let rest = part_all xs i d y (omega arith) (omega (arith, le, length-append (f x) (flat_map f xs))) is in
      let none : f x ≡ [] = nothing (f x) (omega (arith, le, length-append (f x) (flat_map f xs), ap length rest)) in
      (λ k. none k ++ rest k)

module _ {B : Type 0} (f : ℕ → List B) where
  one_of : (ys : List B) → length ys ≡ 1 → (y : B) × (ys ≡ y ∷ [])
  one_of [] e = absurd (omega (arith, e))
  one_of (y ∷ []) e = (y, refl)
  one_of (y ∷ z ∷ ys) e = absurd (omega (arith, e))

  one_each : (a n k : ℕ) (y : B) → ((p : ℕ) → a ≤ p → p < a + n → length (f p) ≡ 1) → k < n → f (a + k) ≡ y ∷ []
      → slice_get (flat_map f (range_with_len a n)) k ≡ Some y
  one_each a zero k y each lt is = absurd (omega arith)
  one_each a (suc n) zero y each lt is =
      let here : f a ≡ y ∷ [] = ap f (let e : a ≡ a + 0 = omega arith in e) ∙ is in
      ap (λ l. slice_get (l ++ flat_map f (range_with_len (a + 1) n)) 0) here
  one_each a (suc n) (suc k) y each lt is =
      let here = one_of (f a) (each a (omega arith) (omega arith)) in
      ap (λ l. slice_get (l ++ flat_map f (range_with_len (a + 1) n)) (suc k)) here.1
      ∙ one_each (a + 1) n k y (λ p le lt'. each p (omega arith) (omega arith)) (omega arith) (ap f (let e : (a + 1) + k ≡ a + suc k = omega arith in e) ∙ is)

module _ {T : Type 0} where
  listed_one : (l : RingSide T) → IsGapless l → (p : ℕ) (y : T) → l.items_at p ≡ y ∷ [] → (p < l.len) × (slice_get (listed l) p ≡ Some y)
  unfolding listed
  listed_one l g p y is =
      let lt : p < l.len = elim (below_or_not p l.len) [ inl lt ↦ lt | inr le ↦ absurd (omega (arith, ap length is, ap length (g.none p le))) ] in
      (lt, one_each l.items_at 0 l.len p y (λ q _ below. g.one q (omega arith)) lt (ap l.items_at (let e : 0 + p ≡ p = omega arith in e) ∙ is))

  same_item : (plan : RingPlan) (puts takes : RingSide T) → SoundRing plan.geometry puts takes → (p : ℕ) (x y : T) → puts.items_at p ≡ x ∷ []
      → takes.items_at p ≡ y ∷ [] → x ≡ y
  same_item plan puts takes s p x y put taken =
      let px = listed_one puts s.published p x put in
      let py = listed_one takes s.dequeued p y taken in
      let e : Some x ≡ Some y =
      sym px.1 ∙ (ap (λ l. slice_get l p) (sym s.fifo.1)
      ∙ (get_left (listed takes) s.fifo.0 p (omega (arith, py.0, length-listed takes s.dequeued)) ∙ py.1)) in
      cc

module _ {T : Type 0} (tags : T → List ℕ) (plans : List RingPlan) (pool : ℕ) where
  module _ (s : St T) (c : IsConsistent tags plans pool s) (id : ℕ) (v : View T) (here : get_elem? s.views id ≡ some v) where
    abbrev parties : List (Party T)
    parties = parties_of_views s.views

    own_items : (r p : ℕ) (side : Side) → party_items r side p (slice_index_or parties id v.party) ≡ party_items r side p v.party
    own_items r p side = ap (party_items r side p) (party_here s.views id v v.party here)

    all_few : (r p : ℕ) (side : Side) (plan : RingPlan) → slice_get plans r ≡ Some plan → length (flat_map (party_items r side p) parties) ≤ 1
    unfolding side_of
    all_few r p Put plan at =
        let g = (ring_sound tags plans pool s c r plan at).published in
        elim (below_or_not p (side_of parties r Put).len) [ inl lt ↦ omega (arith, g.one p lt) | inr le ↦ omega (arith, ap length (g.none p le)) ]
    all_few r p Take plan at =
        let g = (ring_sound tags plans pool s c r plan at).dequeued in
        elim (below_or_not p (side_of parties r Take).len) [ inl lt ↦ omega (arith, g.one p lt) | inr le ↦ omega (arith, ap length (g.none p le)) ]

    all_at : (r p : ℕ) (side : Side) (plan : RingPlan) (x : T) → slice_get plans r ≡ Some plan → party_items r side p v.party ≡ x ∷ []
        → (side_of parties r side).items_at p ≡ x ∷ []
    unfolding side_of
    all_at r p side plan x at is =
        part_all (party_items r side p) parties id v.party x (party_within s.views id v here) (all_few r p side plan at) (own_items r p side ∙ is)

    pub apart : IsApart plans v.party
    apart = record {
      once = λ r p side plan at. omega (
        arith,
        part_le (party_items r side p) parties id v.party (party_within s.views id v here),
        all_few r p side plan at,
        ap length (own_items r p side),
      );
      same = λ r p plan x y at put taken.
          same_item plan (side_of parties r Put) (side_of parties r Take) (ring_sound tags plans pool s c r plan at) p x y (all_at r p Put plan x at put)
          (all_at r p Take plan y at taken);
    }

  pub learns : (slots id word : ℕ) (me : Me (Option T) (View T)) → 0 < me.0.parts
      → Allows (IsConsistent tags plans pool) slots id me word (λ n. n) (learn_tells tags (step slots word 0 0 none) me)
  learns slots id word me alive s c _ here _ =
      let told = c.told id me.0 here alive in
      let k = c.views id me.0 here in (
        loaded me.0,
        keeps,
        tt,
        stays tags plans pool s c word id me.0 (loaded me.0) here alive refl refl refl refl
            record { observed = k.observed; shown = k.shown; ends = k.ends },
        (
          refl,
          refl,
          subst (λ (n : ℕ). IsHeldOnce tags n me.0.party) (sym told.1) (held_once tags plans pool s c id me.0 here),
          subst (λ (l : List RingPlan). IsApart l me.0.party) (sym told.0) (apart s c id me.0 here),
          omega (arith, c.parts, parts_within s.views id me.0 here),
          whole tags plans pool s c id me.0 here,
        ),
      )
