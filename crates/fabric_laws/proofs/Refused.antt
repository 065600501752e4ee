-- Refusals are true: what a word that a step found shows about the spans of all hands
use Rattle.std.proofs.Common.{◌≡◌, ◌≢◌, ℕ, zero, suc, ◌+◌, ◌*◌, ◌<◌, ◌≤◌, ◌%◌, inl, inr, List, [], ◌∷◌, refl, sym, ap, ◌∙◌, subst, arith, Bool, true, false}
use Rattle.std.specs.Prelude.{slice_get, slice_index, slice_index_or, Option, Some, None, ◌&&◌, if◌then◌else◌}
use mathlib.Core.Option.{some, some-injective}
use lib.ListN.{get_elem?}
use Rattle.std.specs.List.{sum_by}
use Rattle.std.proofs.lemmas.Bool.Decides.{nat_tests}
use Rattle.std.proofs.lemmas.List.Sums.{sum_by-cons}
use Rattle.atomic_table.specs.Table.{Me, Allows}
use Rattle.geom.specs.declared.plan.How.{How}
use Rattle.geom.specs.declared.plan.How.TheVariants.{Bulk, Burst}
use Rattle.geom.specs.declared.plan.Mode.TheVariants.{Multi, Hts}
use Rattle.geom.specs.declared.plan.Side.{Side}
use Rattle.geom.specs.declared.plan.Side.TheVariants.{Put, Take}
use Rattle.geom.specs.declared.plan.RingPlan.{RingPlan}
use Rattle.geom.specs.Extent.{range_of}
use Rattle.geom.proofs.Words.{count_back, range_some}
use Rattle.geom.specs.Plan.{granted, mode_of}
use Rattle.ringcore_laws.specs.declared.party.Party.{Party}
use Rattle.ringcore_laws.specs.declared.protocol.Observed.{Observed}
use Rattle.ringcore_laws.specs.declared.protocol.Span.{Span}
use Rattle.ringcore_laws.specs.Party.{covers, is_on}
use Rattle.ringcore_laws.specs.Refusals.{IsTooLittle}
use Rattle.ringcore_laws.specs.RingSide.{RingSide, side_of, span_at, span_count}
use Rattle.ringcore_laws.specs.HeadTailRule.{base}
use Rattle.ringcore_laws.specs.History.{other_side, own_word, position_of, room_by_look}
use Rattle.ringcore_laws.proofs.HistoryLaws.{and_true, on_true}
use Rattle.ringcore_laws.proofs.HeadTailLaws.{own_span}
use Rattle.ringcore_laws.proofs.RingLaws.{below_or_not}
use Rattle.fabric_laws.specs.declared.view.View.{View}
use Rattle.fabric_laws.specs.Refusals.{HadAtMost, HasEarlier, IsTaken, Was, WasEarlier, WasMade, WasTaken, room_on}
use Rattle.fabric_laws.specs.Rule.{IsConsistent, parties_of_views}
use Rattle.fabric_laws.specs.Words.{own_at, settled_word_at, tail_at}
use Rattle.fabric_laws.proofs.Loads.{tail_is}
use Rattle.fabric_laws.proofs.Settles.{starts_above}
use Rattle.fabric_laws.proofs.Steps.{St, base_low, side_ruled, word_is}
use Rattle.fabric_laws.proofs.Views.{party_here, party_within}

module _ {T : Type 0} where
  -- a hand that makes a sum over all parties positive
  some_hand : (f : Party T → ℕ) (views : List (View T)) → 0 < sum_by f (parties_of_views views)
      → (j : ℕ) × (other : View T) × (get_elem? views j ≡ some other) × (0 < f other.party)
  some_hand f [] more = absurd (omega (arith, more))
  some_hand f (x ∷ xs) more = elim (below_or_not 0 (f x.party)) [
    | inl here ↦ (zero, x, refl, here)
    | inr none ↦
        let rest = some_hand f xs (omega (arith, more, none, sum_by-cons f x.party (parties_of_views xs))) in
        (suc rest.0, rest.1, rest.2, rest.3)
  ]

-- the room seen, from a position that the side has passed, is no less than there is
room_seen : {T : Type 0} (side : Side) (plan : RingPlan) (views : List (View T)) (ring position tail low : ℕ) → position ≤ low
    → tail ≡ (side_of (parties_of_views views) ring (other_side side)).len → low ≤ (side_of (parties_of_views views) ring side).reach
    → room_on plan views ring side ≤ room_by_look side plan.geometry.capacity position tail
room_seen Put plan views ring position tail low le seen reach = omega (arith, le, seen, reach)
room_seen Take plan views ring position tail low le seen reach = omega (arith, le, seen, reach)

-- an open span that has positions of a side is of this side
counted : (r : ℕ) (side : Side) (o : Option Span) → 0 < span_count r side o → (span : Span) × (o ≡ Some span) × (span.ring ≡ r) × (span.side ≡ side)
counted r side None more = absurd (omega (arith, more))
counted r side (Some s) more = let on = by_on (is_on s.ring s.side r side) refl more in (s, refl, on.0, on.1)
  where
    by_on : (t : Bool) → is_on s.ring s.side r side ≡ t → 0 < (if t then s.count else 0) → (s.ring ≡ r) × (s.side ≡ side)
    by_on true on more = let e = on_true s.ring r s.side side on in (sym e.0, sym e.1)
    by_on false off more = absurd (omega (arith, more))

-- one that holds a position of a side starts there or lower
holding : (r : ℕ) (side : Side) (p : ℕ) (o : Option Span) → 0 < span_at r side p o
    → (span : Span) × (o ≡ Some span) × (span.ring ≡ r) × (span.side ≡ side) × (span.start ≤ p)
holding r side p None more = absurd (omega (arith, more))
holding r side p (Some s) more = by_test (is_on s.ring s.side r side && covers s p) refl more
  where
    by_test : (t : Bool) → (is_on s.ring s.side r side && covers s p) ≡ t → 0 < (if t then 1 else 0)
        → (span : Span) × (Some s ≡ Some span) × (span.ring ≡ r) × (span.side ≡ side) × (span.start ≤ p)
    by_test true is more =
        let both = and_true (is_on s.ring s.side r side) (covers s p) is in
        let e = on_true s.ring r s.side side both.0 in
        (s, refl, sym e.0, sym e.1, grind (arith, nat_tests, both.1))
    by_test false is more = absurd (omega (arith, more))

-- if none of a request is granted, there was too little
pub too_little : (how : How) (n room left : ℕ) → 0 < n → granted how n left ≡ 0 → room ≤ left → IsTooLittle how n room
too_little Bulk n room left asked nothing le = let more : left < n = grind (arith, nat_tests, asked, nothing) in omega (arith, more, le)
too_little Burst n room left asked nothing le = omega (arith, asked, nothing, le)

module _ {T : Type 0} (tags : T → List ℕ) (plans : List RingPlan) (pool : ℕ) (s : St T) (c : IsConsistent tags plans pool s) (id : ℕ) (v : View T)
    (here : get_elem? s.views id ≡ some v) where
  -- Busy
  pub taken : v.party.span ≡ None → (r : ℕ) (side : Side) (plan : RingPlan) → slice_get plans r ≡ Some plan → mode_of plan side ≡ Hts
      → slice_index s.words (own_at r side) % range_of plan.geometry ≢ 0 → IsTaken s.views id r side
  unfolding side_of
  taken idle r side plan at hts some_reserved =
      let l : RingSide T = side_of (parties_of_views s.views) r side in
      let word : slice_index s.words (own_at r side) ≡ own_word plan.geometry Hts l =
      word_is tags plans pool s c r plan at side ∙ ap (λ m. own_word plan.geometry m l) hts in
      let more : 0 < l.open_count = elim (below_or_not 0 l.open_count) [
        | inl more ↦ more
        | inr none ↦ absurd (some_reserved (ap (λ n. n % range_of plan.geometry) word
            ∙ ap (λ n. (l.len * range_of plan.geometry + n) % range_of plan.geometry) (let zero_open : l.open_count ≡ 0 = omega (arith, none) in zero_open)
            ∙ count_back plan.geometry l.len 0 (range_some plan.geometry)))
      ] in
      let found = some_hand (λ (p : Party T). span_count r side p.span) s.views more in
      let span = counted r side found.1.party.span found.3 in (
        found.0,
        found.1,
        span.0,
        (λ same.
            let is : found.1 ≡ v = some-injective found.1 v (sym found.2 ∙ (ap (get_elem? s.views) same ∙ here)) in
            (let u : None ≡ Some span.0 = sym idle ∙ (ap (λ (w : View T). w.party.span) (sym is) ∙ span.1) in cc)),
        found.2,
        span.1,
        span.2,
        span.3,
      )

  -- Contended
  pub made : (r : ℕ) (side : Side) (plan : RingPlan) → slice_get plans r ≡ Some plan
      → slice_index s.words (own_at r side) ≡ own_word plan.geometry (mode_of plan side) (side_of (parties_of_views s.views) r side)
  made r side plan at = word_is tags plans pool s c r plan at side

  module _ (alive : 0 < v.parts) where
    -- NotYet
    pub earlier : (span : Span) (plan : RingPlan) → v.party.span ≡ Some span → slice_get plans span.ring ≡ Some plan → mode_of plan span.side ≡ Multi
        → slice_index s.words (tail_at span.ring span.side) ≢ span.start → HasEarlier s.views span
    unfolding side_of
    earlier span plan busy at multi miss =
        let parties : List (Party T) = parties_of_views s.views in
        let l : RingSide T = side_of parties span.ring span.side in
        let tail : slice_index s.words (tail_at span.ring span.side) ≡ l.len = c.words.tail span.ring span.side plan at multi in
        let above : l.len ≤ span.start = starts_above tags plans pool s c id v here alive span busy plan at in
        let busy' : (slice_index_or parties id v.party).span ≡ Some span = ap (λ (p : Party T). p.span) (party_here s.views id v v.party here) ∙ busy in
        let lt = party_within s.views id v here in
        let ruled = c.ruled.spans id v.party span lt busy' in
        let end : span.start + span.count ≤ l.reach = (own_span parties id v.party span lt busy').1 in
        let low : l.len < span.start = omega (arith, tail, above, miss) in
        let held : 0 < l.openers l.len =
        (side_ruled tags plans pool s c span.ring plan at span.side).covered multi l.len (omega arith) (omega (arith, low, end, ruled.positive)) in
        let found = some_hand (λ (p : Party T). span_at span.ring span.side l.len p.span) s.views held in
        let other = holding span.ring span.side l.len found.1.party.span found.3 in
        (found.0, found.1, other.0, found.2, other.1, other.2, other.3, omega (arith, other.4, low))

    -- NoRoom
    pub at_most : (side : Side) (o : Observed) (plan : RingPlan) → v.observed ≡ Some o → o.side ≡ side → slice_get plans o.ring ≡ Some plan
        → room_on plan s.views o.ring side ≤ room_by_look side plan.geometry.capacity (position_of plan.geometry (mode_of plan side) o.looked_at)
        (position_of plan.geometry (mode_of plan (other_side side)) (slice_index s.words (settled_word_at (mode_of plan (other_side side)) o.ring (other_side side))))
    at_most side o plan seen on at =
        let own = side_of (parties_of_views s.views) o.ring side in
        let behind : position_of plan.geometry (mode_of plan side) o.looked_at ≤ base (mode_of plan side) own =
        subst (λ (d : Side). position_of plan.geometry (mode_of plan d) o.looked_at ≤ base (mode_of plan d) (side_of (parties_of_views s.views) o.ring d)) on
        (((c.views id v here).observed o seen).1 plan at) in
        room_seen side plan s.views o.ring (position_of plan.geometry (mode_of plan side) o.looked_at)
        (position_of plan.geometry (mode_of plan (other_side side)) (slice_index s.words (settled_word_at (mode_of plan (other_side side)) o.ring (other_side side))))
        (base (mode_of plan side) own) behind (tail_is tags plans pool s c id v here alive o.ring side plan at)
        (base_low plan.geometry (mode_of plan side) own (side_ruled tags plans pool s c o.ring plan at side)).1

module _ {T : Type 0} (tags : T → List ℕ) (plans : List RingPlan) (pool : ℕ) where
  -- each step may state the moment at which it found its word
  pub witnessed : (slots id : ℕ) (me : Me (Option T) (View T)) (word : ℕ) (f : ℕ → ℕ) (tells : ℕ → Me (Option T) (View T) → Type 0) → 0 < me.0.parts
      → Allows (IsConsistent tags plans pool) slots id me word f tells
      → Allows (IsConsistent tags plans pool) slots id me word f (λ x m'. tells x m' × Was tags me.0 word x)
  witnessed slots id me word f tells alive allowed s c long here low =
      let next = allowed s c long here low in
      let told = c.told id me.0 here alive in (
        next.0,
        next.1,
        next.2,
        next.3,
        (
          next.4,
          record {
            state = s;
            id = id;
            consistent = subst (λ (z : List RingPlan × ℕ). IsConsistent tags z.0 z.1 s) (λ j. (sym told.0 j, sym told.1 j)) c;
            here = here;
            found = refl;
          },
        ),
      )

-- the same for the moment of a step
module _ {T : Type 0} (tags : T → List ℕ) (ring : ℕ) (side : Side) (plan : RingPlan) (v : View T) (at : slice_get v.plans ring ≡ Some plan) where
  pub was_taken : (x : ℕ) → v.party.span ≡ None → mode_of plan side ≡ Hts → x % range_of plan.geometry ≢ 0 → Was tags v (own_at ring side) x → WasTaken tags ring side v x
  was_taken x idle hts some_reserved was = record {
    was = was;
    always = λ any.
        taken tags v.plans v.pool any.state any.consistent any.id v any.here idle ring side plan at hts
        (λ e. some_reserved (ap (λ n. n % range_of plan.geometry) (sym any.found) ∙ e));
  }

  pub was_made : (x : ℕ) → Was tags v (own_at ring side) x → WasMade tags ring side plan v x
  was_made x was = record {
    was = was;
    always = λ any. sym any.found ∙ made tags v.plans v.pool any.state any.consistent any.id v any.here ring side plan at;
  }

  pub had_at_most : (word x : ℕ) → 0 < v.parts → v.observed ≡ Some record { ring = ring; side = side; looked_at = word; tail_seen = None }
      → Was tags v (settled_word_at (mode_of plan (other_side side)) ring (other_side side)) x
      → HadAtMost tags ring side plan v (position_of plan.geometry (mode_of plan (other_side side)) x)
      (room_by_look side plan.geometry.capacity (position_of plan.geometry (mode_of plan side) word) (position_of plan.geometry (mode_of plan (other_side side)) x))
  had_at_most word x alive looked was = (
    x,
    refl,
    record {
      was = was;
      always = λ any.
          subst (λ n. room_on plan any.state.views ring side
          ≤ room_by_look side plan.geometry.capacity (position_of plan.geometry (mode_of plan side) word) (position_of plan.geometry (mode_of plan (other_side side)) n)) any.found
          (at_most tags v.plans v.pool any.state any.consistent any.id v any.here alive side
          record { ring = ring; side = side; looked_at = word; tail_seen = None } plan looked refl at);
    },
  )

  pub was_earlier : (start count x : ℕ) → 0 < v.parts → v.party.span ≡ Some record { ring = ring; side = side; start = start; count = count }
      → mode_of plan side ≡ Multi → x ≢ start
      → Was tags v (tail_at ring side) x → WasEarlier tags record { ring = ring; side = side; start = start; count = count } v x
  was_earlier start count x alive busy multi miss was = record {
    was = was;
    always = λ any.
        earlier tags v.plans v.pool any.state any.consistent any.id v any.here alive record { ring = ring; side = side; start = start; count = count } plan busy
        at multi (λ e. miss (sym any.found ∙ e));
  }
