-- What holds for free rings is kept when a party reserves a span or settles one, when a newcomer comes, and when two
-- parties become one
use Rattle.std.proofs.Common.{ℕ, zero, suc, ◌≤◌, ◌<◌, ◌≡◌, ◌≢◌, ◌∙◌, ◌⊎◌, inl, inr, List, [], ◌∷◌, ◌++◌, length, drop, refl, ap, sym, subst, arith, true, false}
use Rattle.std.proofs.Common.{Bool}
use Rattle.std.specs.Prelude.{slice_get, slice_set, slice_index_or, Some, None, ◌&&◌, ◌==◌}
use Rattle.std.specs.List.{list_all}
use Rattle.std.proofs.lemmas.List.Folds.{list_all-append}
use Rattle.geom.specs.declared.plan.RingPlan.{RingPlan}
use Rattle.geom.specs.declared.plan.Side.{Side}
use Rattle.geom.specs.declared.plan.Side.TheVariants.{Put, Take}
use Rattle.ringcore_laws.specs.declared.protocol.Span.{Span}
use Rattle.ringcore_laws.specs.declared.party.Party.{Party}
use Rattle.ringcore_laws.specs.Party.{joined, newcomer, with_open, with_settled}
use Rattle.ringcore_laws.specs.Moves.{reserved_by, settled_by}
use Rattle.ringcore_laws.specs.RingSide.{RingSide, side_of, listed}
use Rattle.ringcore_laws.specs.Sound.{Sound, SoundRing, holds, moved}
use Rattle.ringcore_laws.specs.FreeRings.{AreSingle, FreeRule, buffers_had}
use Rattle.ringcore_laws.proofs.SideLaws.{reserves, settles_side_of, side_of_newcomer}
use Rattle.ringcore_laws.proofs.Laws.{joined_by, joined_sides, off_put, off_ring, same_listed, same_or_not, same_plan, settled_other}
use Rattle.ringcore_laws.proofs.Lists.{each_push, each_set}
use Rattle.ringcore_laws.proofs.Queues.{put_listed}

pub both_true : (b c : Bool) → (b && c) ≡ true → (b ≡ true) × (c ≡ true)
both_true true c h = (refl, h)
both_true false c h = absurd (let h' : false ≡ true = h in cc)

module _ {I : Type 0} (tags : I → List ℕ) where
  singles_append : (xs ys : List I) → AreSingle tags xs → AreSingle tags ys → AreSingle tags (xs ++ ys)
  singles_append xs ys one two =
      list_all-append (λ x. length (tags x) == 1) xs ys
      ∙ (ap (λ v. v && list_all (λ x. length (tags x) == 1) ys) one ∙ two)

  pub singles_drop : (n : ℕ) (xs : List I) → AreSingle tags xs → AreSingle tags (drop n xs)
  singles_drop zero xs all = all
  singles_drop (suc n) [] all = all
  singles_drop (suc n) (x ∷ xs) all = singles_drop n xs (both_true (length (tags x) == 1) (list_all (λ y. length (tags y) == 1) xs) all).1

  -- a party that opens a span has the buffers that it had
  pub buffers_opened : (pool : ℕ) (party : Party I) (span : Span) → buffers_had tags pool (with_open party span) ≡ buffers_had tags pool party
  unfolding buffers_had holds moved
  buffers_opened pool party span = refl

  abbrev Few : List RingPlan → ℕ → Party I → Type 0
  Few plans pool party = (s : Span) (plan : RingPlan) → party.span ≡ Some s → slice_get plans s.ring ≡ Some plan → s.side ≡ Put → plan.free ≡ true
      → s.count ≤ buffers_had tags pool party

  module _ (plans : List RingPlan) (pool : ℕ) (parties : List (Party I)) (rule : FreeRule tags plans pool parties) where
    -- a span of a put into a free ring is at most as long as the number of its party's buffers
    pub free_opened : (i : ℕ) (d : Party I) (span : Span) (plan : RingPlan) → i < length parties → (slice_index_or parties i d).span ≡ None
        → slice_get plans span.ring ≡ Some plan → (span.side ≡ Put → plan.free ≡ true → span.count ≤ buffers_had tags pool (slice_index_or parties i d))
        → FreeRule tags plans pool (reserved_by parties i d span)
    free_opened i d span plan lt idle there few = record {
      singles = λ r plan' at free.
          let put = reserves parties i d span r Put lt idle in
          subst (AreSingle tags) (sym (same_listed (side_of (reserved_by parties i d span) r Put) (side_of parties r Put) put.items_at put.len))
          (rule.singles r plan' at free);
      few = each_set (Few plans pool) parties i (with_open (slice_index_or parties i d) span) rule.few new;
    }
      where
        new : Few plans pool (with_open (slice_index_or parties i d) span)
        new s plan' busy at put free =
            let is : span ≡ s = same_plan busy in
            let same : plan ≡ plan' = same_plan (sym there ∙ (ap (λ (v : Span). slice_get plans v.ring) is ∙ at)) in
            omega (
              arith,
              few (ap (λ (v : Span). v.side) is ∙ put) (ap (λ (v : RingPlan). v.free) same ∙ free),
              ap (λ (v : Span). v.count) is,
              buffers_opened pool (slice_index_or parties i d) span,
            )

    -- the first open span of a side is settled, on the put side of a free ring with items of one buffer each
    pub free_settled : (i : ℕ) (d : Party I) (span : Span) (items : List I) (plan : RingPlan) → Sound tags plans pool parties → i < length parties
        → (slice_index_or parties i d).span ≡ Some span → slice_get plans span.ring ≡ Some plan → span.start ≡ (side_of parties span.ring span.side).len
        → (span.side ≡ Put → plan.free ≡ true → AreSingle tags items) → FreeRule tags plans pool (settled_by parties i d span items)
    free_settled i d span items plan sound lt busy there first single = record {
      singles = λ r plan' at free. by_ring r plan' at free (same_or_not r span.ring);
      few = each_set (Few plans pool) parties i (with_settled (slice_index_or parties i d) span items) rule.few
          (λ s plan' open_one. absurd (let u : None ≡ Some s = open_one in cc));
    }
      where
        after : List (Party I)
        after = settled_by parties i d span items

        ring_sound : SoundRing plan.geometry (side_of parties span.ring Put) (side_of parties span.ring Take)
        ring_sound = sound.rings span.ring plan there

        off : (r : ℕ) (side : Side) → r ≢ span.ring → side_of after r side ≡ side_of parties r side
        off r side apart =
            settled_other (side_of parties r side) (side_of after r side) r side span items
            (settles_side_of parties i d span record { ring = span.ring; side = span.side; start = span.start; items = items } r side lt busy)
            (off_ring span.ring r span.side side apart)

        here : plan.free ≡ true → (s : Side) → span.side ≡ s → AreSingle tags (listed (side_of after span.ring Put))
        here free Put put =
            let own : Span = record { ring = span.ring; side = Put; start = span.start; count = span.count } in
            let is : span ≡ own = λ j. record { ring = span.ring; side = put j; start = span.start; count = span.count } in
            let q = put_listed plan.geometry parties i d span.ring span.start span.count items ring_sound lt (busy ∙ ap (λ (v : Span). Some v) is)
            (first ∙ ap (λ v. (side_of parties span.ring v).len) put) in
            subst (λ (v : Span). AreSingle tags (listed (side_of (settled_by parties i d v items) span.ring Put))) (sym is)
            (subst (AreSingle tags) (sym q) (singles_append (listed (side_of parties span.ring Put)) items (rule.singles span.ring plan there free)
            (single put free)))
        here free Take taking =
            let own : Span = record { ring = span.ring; side = Take; start = span.start; count = span.count } in
            let is : span ≡ own = λ j. record { ring = span.ring; side = taking j; start = span.start; count = span.count } in
            let own_busy : (slice_index_or parties i d).span ≡ Some own = busy ∙ ap (λ (v : Span). Some v) is in
            let q = settled_other (side_of parties span.ring Put) (side_of (settled_by parties i d own items) span.ring Put) span.ring Put own items
            (settles_side_of parties i d own record { ring = span.ring; side = Take; start = span.start; items = items } span.ring Put lt own_busy)
            (off_put span.ring span.ring) in
            subst (λ (v : Span). AreSingle tags (listed (side_of (settled_by parties i d v items) span.ring Put))) (sym is)
            (subst (λ (v : RingSide I). AreSingle tags (listed v)) (sym q) (rule.singles span.ring plan there free))

        by_ring : (r : ℕ) (plan' : RingPlan) → slice_get plans r ≡ Some plan' → plan'.free ≡ true → (r ≡ span.ring) ⊎ (r ≢ span.ring)
            → AreSingle tags (listed (side_of after r Put))
        by_ring r plan' at free (inl own) =
            let same : plan' ≡ plan = same_plan (sym at ∙ (ap (slice_get plans) own ∙ there)) in
            subst (λ (v : ℕ). AreSingle tags (listed (side_of after v Put))) (sym own) (here (ap (λ (v : RingPlan). v.free) (sym same) ∙ free) span.side refl)
        by_ring r plan' at free (inr apart) =
            subst (λ (v : RingSide I). AreSingle tags (listed v)) (sym (off r Put apart)) (rule.singles r plan' at free)

    pub free_newcomer : FreeRule tags plans pool (parties ++ newcomer [] ∷ [])
    free_newcomer = record {
      singles =
          λ r plan at free. subst (λ (v : RingSide I). AreSingle tags (listed v)) (sym (side_of_newcomer parties [] r Put))
          (rule.singles r plan at free);
      few = each_push (Few plans pool) parties (newcomer []) rule.few (λ s plan busy. absurd (let u : None ≡ Some s = busy in cc));
    }

    pub free_joined : (i j : ℕ) (d : Party I) → Sound tags plans pool parties → i < length parties → j < length parties → j ≢ i
        → (slice_index_or parties i d).span ≡ None → (slice_index_or parties j d).span ≡ None → FreeRule tags plans pool (joined_by tags parties i j d)
    free_joined i j d sound at_i at_j apart idle_i idle_j = record {
      singles = λ r plan at free.
          subst (λ (v : RingSide I). AreSingle tags (listed v))
          (sym (joined_sides tags plans pool parties i j d r plan Put sound at at_i at_j apart idle_i idle_j))
          (rule.singles r plan at free);
      few = each_set (Few plans pool) (slice_set parties i (joined (slice_index_or parties i d) (slice_index_or parties j d))) j (newcomer [])
          (each_set (Few plans pool) parties i (joined (slice_index_or parties i d) (slice_index_or parties j d)) rule.few
          (λ s plan busy. absurd (let u : None ≡ Some s = busy in cc)))
          (λ s plan busy. absurd (let u : None ≡ Some s = busy in cc));
    }
