-- A hand that has all parts is the only one: its spans and buffers are all there are
use Rattle.std.proofs.Common.{◌≡◌, ℕ, zero, suc, ◌+◌, ◌<◌, ◌≤◌, List, [], ◌∷◌, ◌++◌, length, max, refl, sym, ap, ◌∙◌, subst, arith}
use Rattle.std.specs.Prelude.{slice_index_or, drop}
use mathlib.Core.Option.{some, some-injective, some-ne-none}
use lib.ListN.{get_elem?}
use Rattle.std.specs.List.{flat_map, range_with_len, sum_by}
use Rattle.std.proofs.lemmas.List.Sums.{sum_by-cons}
use Rattle.geom.specs.declared.plan.Side.{Side}
use Rattle.geom.specs.declared.plan.Side.TheVariants.{Put, Take}
use Rattle.geom.specs.declared.plan.RingPlan.{RingPlan}
use Rattle.ringcore_laws.specs.declared.party.Party.{Party}
use Rattle.ringcore_laws.specs.Party.{newcomer}
use Rattle.ringcore_laws.specs.RingSide.{RingSide, party_count, party_end, greatest, party_items, listed, side_of, span_at, span_count}
use Rattle.ringcore_laws.specs.Sound.{Sound, SoundRing, holds, in_ring, moved, occurrences, occurrences_in, place_count}
use Rattle.fabric_laws.specs.declared.view.View.{View}
use Rattle.fabric_laws.specs.Rule.{IsConsistent, IsSpent, all_parts, parties_of_views}
use Rattle.fabric_laws.proofs.Steps.{St, held_once}
use Rattle.fabric_laws.proofs.Views.{parts_within}

module _ {T : Type 0} where
  abbrev parts_of : View T → ℕ
  parts_of v = v.parts

  abbrev nobody : Party T
  nobody = newcomer []

  -- what a list of parties makes, if one without spans and buffers adds nothing
  module _ {R : Type 0} (f : List (Party T) → R) (skip : (ps : List (Party T)) → f (nobody ∷ ps) ≡ f ps)
      (more : (p : Party T) (ps qs : List (Party T)) → f ps ≡ f qs → f (p ∷ ps) ≡ f (p ∷ qs)) where
    none : (views : List (View T)) → sum_by parts_of views ≡ 0 → ((j : ℕ) (u : View T) → get_elem? views j ≡ some u → u.parts ≡ 0 → IsSpent u)
        → f (parties_of_views views) ≡ f []
    none [] zeros each = refl
    none (x ∷ xs) zeros each =
        let sum = sum_by-cons parts_of x xs in
        let mine = each 0 x refl (omega (arith, zeros, sum)) in
        ap (λ p. f (p ∷ parties_of_views xs)) mine.party ∙ (skip (parties_of_views xs) ∙ none xs (omega (arith, zeros, sum)) (λ j u at. each (suc j) u at))

    pub alone : (views : List (View T)) (id : ℕ) (v : View T) → get_elem? views id ≡ some v → sum_by parts_of views ≡ v.parts
        → ((j : ℕ) (u : View T) → get_elem? views j ≡ some u → u.parts ≡ 0 → IsSpent u) → f (parties_of_views views) ≡ f (v.party ∷ [])
    alone [] id v here all each = absurd (some-ne-none v (sym here))
    alone (x ∷ xs) zero v here all each =
        let sum = sum_by-cons parts_of x xs in
        let is : x ≡ v = some-injective x v here in
        ap (λ u. f (u.party ∷ parties_of_views xs)) is
        ∙ more v.party (parties_of_views xs) [] (none xs (omega (arith, all, sum, ap parts_of is)) (λ j u at. each (suc j) u at))
    alone (x ∷ xs) (suc id) v here all each =
        let sum = sum_by-cons parts_of x xs in
        let within = parts_within xs id v here in
        let mine = each 0 x refl (omega (arith, all, sum, within)) in
        ap (λ p. f (p ∷ parties_of_views xs)) mine.party ∙ (skip (parties_of_views xs)
        ∙ alone xs id v here (omega (arith, all, sum, within)) (λ j u at. each (suc j) u at))

  -- a side of a ring

  side_skips : (r : ℕ) (side : Side) (ps : List (Party T)) → side_of (nobody ∷ ps) r side ≡ side_of ps r side
  unfolding side_of party_items party_count party_end
  side_skips r side ps =
      let len : sum_by (party_count r side) (nobody ∷ ps) ≡ sum_by (party_count r side) ps = omega (arith, sum_by-cons (party_count r side) nobody ps) in
      let openers : (p : ℕ) → sum_by (λ (party : Party T). span_at r side p party.span) (nobody ∷ ps)
      ≡ sum_by (λ (party : Party T). span_at r side p party.span) ps =
      λ p. omega (arith, sum_by-cons (λ (party : Party T). span_at r side p party.span) nobody ps) in
      let open_count : sum_by (λ (party : Party T). span_count r side party.span) (nobody ∷ ps)
      ≡ sum_by (λ (party : Party T). span_count r side party.span) ps =
      omega (arith, sum_by-cons (λ (party : Party T). span_count r side party.span) nobody ps) in
      let reach : greatest (party_end r side) (nobody ∷ ps) ≡ greatest (party_end r side) ps = omega arith in
      λ i. record {
        items_at = λ p. flat_map (party_items r side p) ps;
        len = len i;
        openers = λ p. openers p i;
        open_count = open_count i;
        reach = reach i;
      }

  side_more : (r : ℕ) (side : Side) (x : Party T) (ps qs : List (Party T)) → side_of ps r side ≡ side_of qs r side
      → side_of (x ∷ ps) r side ≡ side_of (x ∷ qs) r side
  unfolding side_of
  side_more r side x ps qs same =
      let len : sum_by (party_count r side) (x ∷ ps) ≡ sum_by (party_count r side) (x ∷ qs) =
      omega (arith, sum_by-cons (party_count r side) x ps, sum_by-cons (party_count r side) x qs, ap (λ (l : RingSide T). l.len) same) in
      let at : ℕ → Party T → ℕ = λ p party. span_at r side p party.span in
      let openers : (p : ℕ) → sum_by (at p) (x ∷ ps) ≡ sum_by (at p) (x ∷ qs) =
      λ p. omega (arith, sum_by-cons (at p) x ps, sum_by-cons (at p) x qs, ap (λ (l : RingSide T). l.openers p) same) in
      let count : Party T → ℕ = λ party. span_count r side party.span in
      let open_count : sum_by count (x ∷ ps) ≡ sum_by count (x ∷ qs) =
      omega (arith, sum_by-cons count x ps, sum_by-cons count x qs, ap (λ (l : RingSide T). l.open_count) same) in
      λ i. record {
        items_at = λ p. party_items r side p x ++ (same i).items_at p;
        len = len i;
        openers = λ p. openers p i;
        open_count = open_count i;
        reach = max (party_end r side x) (same i).reach;
      }

  module _ (tags : T → List ℕ) (plans : List RingPlan) (pool : ℕ) (s : St T) (c : IsConsistent tags plans pool s) (id : ℕ) (v : View T)
      (here : get_elem? s.views id ≡ some v) (all : v.parts ≡ all_parts) where
    abbrev parties : List (Party T)
    parties = parties_of_views s.views

    abbrev one : List (Party T)
    one = v.party ∷ []

    total : sum_by parts_of s.views ≡ v.parts
    total = c.parts ∙ sym all

    pub side_alone : (r : ℕ) (side : Side) → side_of parties r side ≡ side_of one r side
    side_alone r side = alone (λ ps. side_of ps r side) (side_skips r side) (side_more r side) s.views id v here total c.spent

    sum_alone : (g : Party T → ℕ) → g nobody ≡ 0 → sum_by g parties ≡ sum_by g one
    sum_alone g nothing =
        alone (sum_by g) (λ ps. omega (arith, sum_by-cons g nobody ps, nothing)) (λ p ps qs e. omega (arith, sum_by-cons g p ps, sum_by-cons g p qs, e)) s.views
        id v here total c.spent

    held_alone : (b : ℕ) → sum_by (holds tags b) parties ≡ sum_by (holds tags b) one
    unfolding holds moved
    held_alone b = sum_alone (holds tags b) refl

    queued_alone : (b : ℕ) (rs : List ℕ) → sum_by (in_ring tags b parties) rs ≡ sum_by (in_ring tags b one) rs
    queued_alone b rs =
        λ i. sum_by (λ r. occurrences_in tags b (drop (side_alone r Take i).len (listed (side_alone r Put i)))) rs

    places_alone : (n b : ℕ) → place_count tags n b parties ≡ place_count tags n b one
    unfolding place_count
    places_alone n b = omega (arith, held_alone b, queued_alone b (range_with_len 0 n))

    pub sound_alone : Sound tags plans pool one
    sound_alone = record {
      rings = λ r plan at. subst (λ (l : RingSide T). SoundRing plan.geometry l (side_of one r Take)) (side_alone r Put)
          (subst (λ (l : RingSide T). SoundRing plan.geometry (side_of parties r Put) l) (side_alone r Take) (c.sound.rings r plan at));
      buffers = record {
        never_below_none = λ i d b lt. first i d b lt;
        one_place = λ b lt. sym (places_alone (length plans) b) ∙ c.sound.buffers.one_place b lt;
        no_place = λ b le. sym (places_alone (length plans) b) ∙ c.sound.buffers.no_place b le;
      };
    }
      where
        first : (i : ℕ) (d : Party T) (b : ℕ) → i < 1 → moved tags Put b (slice_index_or one i d) ≤ occurrences b (slice_index_or one i d).given
            + moved tags Take b (slice_index_or one i d)
        first zero d b lt = (held_once tags plans pool s c id v here b).2
        first (suc i) d b lt = absurd (omega (arith, lt))
