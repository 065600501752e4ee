-- A fabric begins consistent: all words are 0, all slots empty, and the one hand has all buffers
use Rattle.std.proofs.Common.{◌≡◌, ℕ, zero, suc, ◌+◌, ◌*◌, ◌<◌, ◌≤◌, ◌≢◌, ◌⊎◌, inl, inr, List, [], ◌∷◌, length, map, drop, get_or, replicate, sym, refl, ap}
use Rattle.std.proofs.Common.{◌∙◌, subst, arith, true}
use Rattle.std.specs.Prelude.{slice_get, slice_index_or, Option, Some, None, ◌==◌}
use mathlib.Core.Option.{some, some-injective, some-ne-none}
use lib.ListN.{get_elem?}
use Rattle.std.specs.List.{list_all, range_with_len, sum_by}
use Rattle.std.proofs.lemmas.List.{get_or-replicate, length-replicate}
use Rattle.std.proofs.lemmas.List.Sums.{sum_by-cons}
use Rattle.std.proofs.lemmas.Option.{slice_get_within}
use Rattle.atomic_table.specs.Table.{opening}
use Rattle.geom.specs.declared.plan.Mode.{Mode}
use Rattle.geom.specs.declared.plan.Mode.TheVariants.{Multi, Hts}
use Rattle.geom.specs.declared.plan.Side.{Side}
use Rattle.geom.specs.declared.plan.Side.TheVariants.{Put, Take}
use Rattle.geom.specs.declared.plan.RingPlan.{RingPlan}
use Rattle.geom.specs.Plan.{mode_of}
use Rattle.ringcore_laws.specs.declared.party.Party.{Party}
use Rattle.ringcore_laws.specs.declared.protocol.Span.{Span}
use Rattle.ringcore_laws.specs.Party.{newcomer}
use Rattle.ringcore_laws.specs.RingSide.{RingSide, party_count, party_end, party_items, listed, side_of}
use Rattle.ringcore_laws.specs.Sound.{Sound, SoundRing, holds, in_ring, moved, occurrences, occurrences_in, place_count}
use Rattle.geom.specs.Extent.{Extent}
use Rattle.geom.proofs.Words.{range_some}
use Rattle.ringcore_laws.specs.HeadTailRule.{HeadTailRule, RuledSide, RuledSpan}
use Rattle.ringcore_laws.specs.FreeRings.{FreeRule, buffers_had}
use Rattle.ringcore_laws.specs.History.{own_word}
use Rattle.ringcore_laws.proofs.SideLaws.{side_of_newcomer}
use Rattle.ringcore_laws.proofs.Laws.{range_same}
use Rattle.ringcore_laws.proofs.OpeningLaws.{empty, occurrences-cons, ring_fresh, sum_none}
use Rattle.fabric_laws.specs.declared.view.View.{View}
use Rattle.fabric_laws.specs.Rule.{IsFitting, AtHome, IsConsistent, IsTrueView, all_parts}
use Rattle.fabric_laws.specs.Words.{own_at, slot_at, slot_count, tail_at}
use Rattle.fabric_laws.specs.Changes.{newborn}
use Rattle.fabric_laws.proofs.Homes.{slot_inside}
use Rattle.fabric_laws.proofs.Lanes.{own_inside, tail_inside}

-- each number of a range is in it once, and no other number is
pub not_in_range : (b a n : ℕ) → (b < a) ⊎ (a + n ≤ b) → occurrences b (range_with_len a n) ≡ 0
not_in_range b a zero out = refl
not_in_range b a (suc n) out = elim (occurrences-cons b a (range_with_len (a + 1) n)) [
  | inl same ↦ absurd (elim out [ inl x ↦ let e = same.0 in omega arith | inr y ↦ let e = same.0 in omega arith ])
  | inr apart ↦ apart.1 ∙ not_in_range b (a + 1) n (elim out [ inl x ↦ inl (omega arith) | inr y ↦ inr (omega arith) ])
]

pub in_range : (b a n : ℕ) → a ≤ b → b < a + n → occurrences b (range_with_len a n) ≡ 1
in_range b a zero le lt = absurd (omega arith)
in_range b a (suc n) le lt = elim (occurrences-cons b a (range_with_len (a + 1) n)) [
  | inl same ↦ let e = same.0 in omega (arith, same.1, not_in_range b (a + 1) n (inl (omega arith)))
  | inr apart ↦ let e = apart.0 in apart.1 ∙ in_range b (a + 1) n (let ne : a ≢ b = e in omega arith) (omega arith)
]

module _ {T : Type 0} (tags : T → List ℕ) (plans : List RingPlan) (pool : ℕ) where
  abbrev alone : List (Party T)
  alone = newcomer (range_with_len 0 pool) ∷ []

  side_empty : (r : ℕ) (side : Side) → side_of alone r side ≡ empty
  unfolding side_of party_items party_count party_end
  side_empty r side = side_of_newcomer [] (range_with_len 0 pool) r side

  sound_alone : Sound tags plans pool alone
  unfolding place_count holds moved listed
  sound_alone = record {
    rings = λ r plan at.
        subst (λ (l : RingSide T). SoundRing plan.geometry l (side_of alone r Take)) (sym (side_empty r Put))
        (subst (λ (l : RingSide T). SoundRing plan.geometry empty l) (sym (side_empty r Take)) (ring_fresh plan.geometry));
    buffers = record {
      never_below_none = never;
      one_place = λ b lt. all b ∙ in_range b 0 pool (omega arith) (omega arith);
      no_place = λ b out. all b ∙ not_in_range b 0 pool (inr (omega arith));
    };
  }
    where
      never : (k : ℕ) (d : Party T) (b : ℕ) → k < 1 → moved tags Put b (slice_index_or alone k d) ≤ occurrences b (slice_index_or alone k d).given
          + moved tags Take b (slice_index_or alone k d)
      never zero d b lt = omega arith
      never (suc k) d b lt = absurd (omega arith)

      no_queue : (b r : ℕ) → in_ring tags b alone r ≡ 0
      no_queue b r =
          ap (λ (l : RingSide T). occurrences_in tags b (drop l.len (listed (side_of alone r Put)))) (side_empty r Take)
          ∙ ap (λ (l : RingSide T). occurrences_in tags b (listed l)) (side_empty r Put)

      all : (b : ℕ) → place_count tags (length plans) b alone ≡ occurrences b (range_with_len 0 pool)
      all b =
          let rings : sum_by (in_ring tags b alone) (range_with_len 0 (length plans)) ≡ 0 =
          range_same (λ r. 0) (in_ring tags b alone) 0 (length plans) (λ r le lt. no_queue b r) ∙ sum_none 0 (length plans) in
          omega arith

  ruled_alone : HeadTailRule plans alone
  ruled_alone = record {
    sides = λ r side plan at. subst (RuledSide plan.geometry (mode_of plan side)) (sym (side_empty r side))
        record { behind = omega arith; last = omega arith; small = λ _. range_some plan.geometry; covered = λ _ p le lt. absurd (omega arith) };
    room = λ r plan at. omega (arith, ap (λ (l : RingSide T). l.reach) (side_empty r Put));
    spans = none_open;
  }
    where
      none_open : (k : ℕ) (d : Party T) (s : Span) → k < 1 → (slice_index_or alone k d).span ≡ Some s → RuledSpan plans alone s
      none_open zero d s lt busy = absurd (let u : None ≡ Some s = busy in cc)
      none_open (suc k) d s lt busy = absurd (omega arith)

  free_alone : FreeRule tags plans pool alone
  unfolding listed
  free_alone = record {
    singles = λ r plan at free.
        subst (λ (z : RingSide T). list_all (λ x. length (tags x) == 1) (listed z) ≡ true) (sym (side_empty r Put)) refl;
    few = few;
  }
    where
      few : (k : ℕ) (d : Party T) → k < 1 → (s : Span) (plan : RingPlan) → (slice_index_or alone k d).span ≡ Some s
          → slice_get plans s.ring ≡ Some plan → s.side ≡ Put → plan.free ≡ true → s.count ≤ buffers_had tags pool (slice_index_or alone k d)
      few zero d lt s plan busy at put free = absurd (let u : None ≡ Some s = busy in cc)
      few (suc k) d lt s plan busy at put free = absurd (omega arith)

  abbrev pub nothing : Option T
  nothing = None

  home_none : (n i : ℕ) → i < n → get_elem? (map some (replicate n nothing)) i ≡ some (some nothing)
  home_none zero i lt = absurd (omega arith)
  home_none (suc n) zero lt = refl
  home_none (suc n) (suc i) lt = home_none n i (omega arith)

  homes_long : (n : ℕ) → length (map some (replicate n nothing)) ≡ n
  homes_long zero = refl
  homes_long (suc n) = ap suc (homes_long n)

  abbrev first : View T
  first = newborn plans pool all_parts (range_with_len 0 pool)

  first_view : (id : ℕ) (v : View T) → get_elem? (first ∷ []) id ≡ some v → first ≡ v
  first_view zero v e = some-injective first v e
  first_view (suc id) v e = absurd (some-ne-none v (sym e))

  pub opens : (ws : List ℕ) → IsFitting plans pool → ws ≡ replicate (64 * length plans) 0
      → IsConsistent tags plans pool (opening ws (replicate (slot_count plans) nothing) first)
  unfolding listed
  opens ws fitting zeros = record {
    fitting = fitting;
    sound = sound_alone;
    ruled = ruled_alone;
    free = free_alone;
    word_count = ap length zeros ∙ length-replicate (64 * length plans) 0;
    words = record {
      own = λ r side plan at.
          zero_at (own_at r side) (own_inside r (length plans) side (slice_get_within plans r plan at))
          ∙ sym (ap (own_word plan.geometry (mode_of plan side)) (side_empty r side) ∙ no_word plan.geometry (mode_of plan side));
      tail = λ r side plan at multi.
          zero_at (tail_at r side) (tail_inside r (length plans) side (slice_get_within plans r plan at))
          ∙ sym (ap (λ (l : RingSide T). l.len) (side_empty r side));
    };
    home_count = homes_long (slot_count plans);
    homes = λ r plan at.
        subst (λ (z : RingSide T × RingSide T). AtHome plans (map some (replicate (slot_count plans) nothing)) z.0 z.1 r plan)
        (λ k. (sym (side_empty r Put) k, sym (side_empty r Take) k)) record {
          full = λ p x le free is. absurd (let u : None ≡ Some x = is in cc);
          vacant = λ p le free lt. home_none (slot_count plans) (slot_at plans r plan p)
              (slot_inside plans r plan p at (omega (arith, fitting.spare r plan at)));
        };
    views = λ id v e. subst (IsTrueView plans alone) (first_view id v e) record {
      observed = λ o h. absurd (let u : None ≡ Some o = h in cc);
      shown = λ span h. absurd (let u : None ≡ Some span = h in cc);
      ends = λ j x h. absurd (some-ne-none x (sym h));
    };
    told = λ id v e pos. let is = sym (first_view id v e) in (ap (λ (z : View T). z.plans) is, ap (λ (z : View T). z.pool) is);
    spent = λ id v e none. absurd (let q : all_parts ≡ v.parts = ap (λ (z : View T). z.parts) (first_view id v e) in omega arith);
    parts = omega (arith, sum_by-cons (λ (v : View T). v.parts) first []);
  }
    where
      zero_at : (i : ℕ) → i < 64 * length plans → get_or ws i 0 ≡ 0
      zero_at i lt = ap (λ (l : List ℕ). get_or l i 0) zeros ∙ get_or-replicate (64 * length plans) i 0 0 lt

      no_word : (e : Extent) (m : Mode) → own_word {I = T} e m empty ≡ 0
      no_word e Multi = refl
      no_word e Hts = omega arith
