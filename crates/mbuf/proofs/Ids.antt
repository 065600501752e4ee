-- Shares by their ids.
use Rattle.std.proofs.Common.{◌≡◌, ◌+◌, ◌<◌, ◌≤◌, ◌==◌, ℕ, zero, suc, Bool, true, false, not, cond, inl, inr, List, [], ◌∷◌, ◌++◌, length, map, get_or, set}
use Rattle.std.proofs.Common.{sym, refl, ap, ◌∙◌, subst, Option, Some, None, arith}
use Rattle.std.specs.Prelude.{remove, All, IfNone, IfSome}
use Rattle.std.specs.List.{position_or_len}
use Rattle.std.proofs.lemmas.Bool.{cases_lt}
use Rattle.std.proofs.lemmas.Bool.Decides.{eqb_tells}
use Rattle.std.proofs.lemmas.List.{map-append, length-map}
use Rattle.std.proofs.lemmas.List.Elements.{All-append, All-cons, All-nil, All-set, All-map, All-weaker}
use Rattle.std.proofs.lemmas.List.Folds.{find_at}
use Rattle.std.proofs.lemmas.List.Sums.{sum_by-cons, sum_by-append, sum_by-remove}
use Rattle.std.proofs.lemmas.Option.{slice_get-get_or, slice_get_past}
use Rattle.burst.specs.Numbers.{times, AreDistinct}
use Rattle.mbuf.specs.Deck.{Share, HasIds, StandsAt, share_of, share_at, at_id, without}
use Rattle.slab.specs.Slab.{Slab}
use Rattle.std.proofs.Common.{◌≢◌, ◌-◌}
use Rattle.std.specs.List.Sorted.{IsNonDecreasing}
use Rattle.std.proofs.lemmas.List.{get_or-map}
use Rattle.std.proofs.lemmas.List.Sorted.{IsNonDecreasingBy-push}
use Rattle.mbuf.specs.Buffer.{Buffer}
use Rattle.mbuf.specs.Entries.{HasIdAt, kept_by, live_of}
use Rattle.mbuf.specs.declared.entry.Entry.{Entry}
use Rattle.mbuf.proofs.Entries.{All-remove, map_remove, one_if, sum_by_none}
use Rattle.mbuf.proofs.Searching.{rising_remove}

abbrev has : ℕ → Share → Bool
has id share = share.id == id

abbrev no_share : Share
no_share = record { id = 0; mentions = []; bytes = [] }

abbrev no_entry : Entry
no_entry = record { id = 0; packet = 0; from = 0; len = 0 }

abbrev ids : List Share → List ℕ
ids live = map (λ share. share.id) live

abbrev is_id : ℕ → ℕ → ℕ
is_id id n = one_if (n == id)

-- ---- finding one
module _ (id : ℕ) where
  passes : (live : List Share) → position_or_len (has id) live < length live → (share_at live (position_or_len (has id) live)).id ≡ id
  passes [] there = absurd (omega arith)
  passes (share ∷ live) there = elim (eqb_tells share.id id) [
    | inl here ↦ ap (λ b. (share_at (share ∷ live) (cond (not b) (1 + position_or_len (has id) live) 0)).id) here.0 ∙ here.1
    | inr else ↦ (
        let on : position_or_len (has id) (share ∷ live) ≡ suc (position_or_len (has id) live) =
        ap (λ b. cond (not b) (1 + position_or_len (has id) live) 0) else.0 ∙ omega arith in
        ap (λ k. (share_at (share ∷ live) k).id) on ∙ passes live (omega (arith, on))
        )
  ]

  stands_nowhere : (live : List Share) → All (λ share. share.id ≢ id) live → share_of id live ≡ None
  stands_nowhere live none =
      let first = position_or_len (has id) live in
      elim (cases_lt first (length live)) [
        | inl less ↦ absurd (none first no_share less (passes live less))
        | inr past ↦ find_at (has id) live ∙ slice_get_past live first past
      ]

-- ---- the one that has it is the only one
module _ (id : ℕ) where
  in_ids : (live : List Share) (i : ℕ) → i < length live → (share_at live i).id ≡ id → 0 < times id (ids live)
  in_ids [] i there e = absurd (omega arith)
  in_ids (share ∷ live) zero there e = elim (eqb_tells share.id id) [
    | inl here ↦ omega (arith, sum_by-cons (is_id id) share.id (ids live), ap one_if here.0)
    | inr else ↦ absurd (else.1 e)
  ]
  in_ids (share ∷ live) (suc i) there e = omega (arith, sum_by-cons (is_id id) share.id (ids live), in_ids live i (omega arith) e)

  differs : (share : Share) (live : List Share) → times id (ids (share ∷ live)) ≡ 0 → (has id share ≡ false) × (times id (ids live) ≡ 0)
  differs share live none = elim (eqb_tells share.id id) [
    | inl here ↦ absurd (omega (arith, sum_by-cons (is_id id) share.id (ids live), ap one_if here.0))
    | inr else ↦ (else.0, omega (arith, sum_by-cons (is_id id) share.id (ids live)))
  ]

  -- the first of two lists in which the id occurs at most once
  only_first : (share : Share) (live : List Share) → times id (ids (share ∷ live)) ≤ 1 → share.id ≡ id → (has id share ≡ true) × (times id (ids live) ≡ 0)
  only_first share live once e = elim (eqb_tells share.id id) [
    | inl here ↦ (here.0, omega (arith, sum_by-cons (is_id id) share.id (ids live), ap one_if here.0))
    | inr else ↦ absurd (else.1 e)
  ]

  only_later : (share : Share) (live : List Share) → times id (ids (share ∷ live)) ≤ 1 → 0 < times id (ids live) → (has id share ≡ false)
      × (times id (ids live) ≤ 1)
  only_later share live once some = elim (eqb_tells share.id id) [
    | inl here ↦ absurd (omega (arith, sum_by-cons (is_id id) share.id (ids live), ap one_if here.0))
    | inr else ↦ (else.0, omega (arith, sum_by-cons (is_id id) share.id (ids live)))
  ]

  nowhere : (f : Share → Share) (live : List Share) → times id (ids live) ≡ 0 → at_id id f live ≡ live
  nowhere f [] none = refl
  nowhere f (share ∷ live) none = let rest = differs share live none in λ k. cond (rest.0 k) (f share) share ∷ nowhere f live rest.1 k

  none_without : (live : List Share) → times id (ids live) ≡ 0 → without id live ≡ live
  none_without [] none = refl
  none_without (share ∷ live) none = let rest =
      differs share live none in (λ k. cond (not (rest.0 k)) (share ∷ without id live) (without id live))
      ∙ ap (λ (l : List Share). share ∷ l) (none_without live rest.1)

  at_place : (f : Share → Share) (live : List Share) (i : ℕ) → i < length live → (share_at live i).id ≡ id → times id (ids live) ≤ 1
      → at_id id f live ≡ set live i (f (share_at live i))
  at_place f [] i there e once = absurd (omega arith)
  at_place f (share ∷ live) zero there e once = let only = only_first share live once e in λ k. cond (only.0 k) (f share) share ∷ nowhere f live only.1 k
  at_place f (share ∷ live) (suc i) there e once =
      let only = only_later share live once (in_ids live i (omega arith) e) in
      let rest = at_place f live i (omega arith) e only.1 in
      λ k. cond (only.0 k) (f share) share ∷ rest k

  but_place : (live : List Share) (i : ℕ) → i < length live → (share_at live i).id ≡ id → times id (ids live) ≤ 1 → without id live ≡ remove live i
  but_place [] i there e once = absurd (omega arith)
  but_place (share ∷ live) zero there e once = let only =
      only_first share live once e in (λ k. cond (not (only.0 k)) (share ∷ without id live) (without id live)) ∙ none_without live only.1
  but_place (share ∷ live) (suc i) there e once =
      let only = only_later share live once (in_ids live i (omega arith) e) in
      (λ k. cond (not (only.0 k)) (share ∷ without id live) (without id live)) ∙ ap (λ (l : List Share). share ∷ l) (but_place live i (omega arith) e only.1)

  -- it is the first that has the id
  first_at : (live : List Share) (i : ℕ) → i < length live → (share_at live i).id ≡ id → times id (ids live) ≤ 1
      → position_or_len (has id) live ≡ i
  first_at [] i there e once = absurd (omega arith)
  first_at (share ∷ live) zero there e once = ap (λ b. cond (not b) (1 + position_or_len (has id) live) 0) (only_first share live once e).0
  first_at (share ∷ live) (suc i) there e once =
      let only = only_later share live once (in_ids live i (omega arith) e) in
      ap (λ b. cond (not b) (1 + position_or_len (has id) live) 0) only.0 ∙ omega (arith, first_at live i (omega arith) e only.1)

  stands_at : (live : List Share) (i : ℕ) → i < length live → (share_at live i).id ≡ id → AreDistinct (ids live) → StandsAt id live i
  stands_at live i there e distinct =
      let first = first_at live i there e (distinct id) in
      let found = find_at (has id) live ∙ slice_get-get_or live (position_or_len (has id) live) no_share (omega (arith, first)) in
      record { there = there; is = subst (λ k. share_of id live ≡ Some (share_at live k)) first found; has_id = e }

  -- what is found among entries, for their shares
  module _ (packets : Slab (List Buffer)) (entries : List Entry) (o : Option ℕ) where
    pub absent : IfNone o (All (λ (entry : Entry). entry.id ≢ id) entries) → IfNone o (share_of id (live_of packets entries) ≡ None)
    absent = by_case o
      where
        by_case : (o : Option ℕ) → IfNone o (All (λ (entry : Entry). entry.id ≢ id) entries) → IfNone o (share_of id (live_of packets entries) ≡ None)
        by_case None none = stands_nowhere id (live_of packets entries) (All-map (λ (share : Share). share.id ≢ id) (kept_by packets) entries none)
        by_case (Some i) none = _

    pub found : AreDistinct (ids (live_of packets entries)) → IfSome o (HasIdAt id entries) → IfSome o (StandsAt id (live_of packets entries))
    found distinct = by_case o
      where
        by_case : (o : Option ℕ) → IfSome o (HasIdAt id entries) → IfSome o (StandsAt id (live_of packets entries))
        by_case None at = _
        by_case (Some i) at =
            let here = get_or-map (kept_by packets) entries i no_entry no_share at.there in
            stands_at (live_of packets entries) i (omega (arith, at.there, length-map entries (kept_by packets)))
            (ap (λ (share : Share). share.id) here ∙ at.is no_entry) distinct

module _ (next id i : ℕ) (live : List Share) (is : HasIds next live) (at : StandsAt id live i) where
  pub set_at_id : (f : Share → Share) → set live i (f (share_at live i)) ≡ at_id id f live
  set_at_id f = sym (at_place id f live i at.there at.has_id (is.distinct id))

  pub remove_without : remove live i ≡ without id live
  remove_without = sym (but_place id live i at.there at.has_id (is.distinct id))

-- ---- ids stay apart
none_reaches : (next : ℕ) (ns : List ℕ) → All (λ n. n < next) ns → times next ns ≡ 0
none_reaches next ns below = sum_by_none (is_id next) ns (λ k d in_ns. elim (eqb_tells (get_or ns k d) next) [
  | inl same ↦ absurd (omega (arith, below k d in_ns, same.1))
  | inr else ↦ ap one_if else.0
])

-- a number above those of a list
pub next_apart : (next : ℕ) (ns : List ℕ) → AreDistinct ns → All (λ n. n < next) ns → AreDistinct (ns ++ next ∷ [])
next_apart next ns distinct below b = elim (eqb_tells next b) [
  | inl same ↦ omega (arith, counted, ap one_if same.0, none_reaches next ns below, ap (λ n. times n ns) same.1)
  | inr else ↦ omega (arith, counted, ap one_if else.0, distinct b)
]
  where
    counted : times b (ns ++ next ∷ []) ≡ times b ns + is_id b next
    counted = sum_by-append (is_id b) ns (next ∷ []) ∙ omega arith

pub ids_add : (next : ℕ) (live : List Share) (share : Share) → share.id ≡ next → HasIds next live → HasIds (next + 1) (live ++ share ∷ [])
ids_add next live share e is = record {
  distinct = subst AreDistinct (sym longer) (next_apart next (ids live) is.distinct below);
  rising = subst IsNonDecreasing (sym longer) (IsNonDecreasingBy-push (λ n. n) (ids live) next is.rising
      (λ d some. let last = below (length (ids live) - 1) d (omega arith) in omega arith));
  below = All-append (λ (share : Share). share.id < next + 1) live (share ∷ [])
      (All-weaker (λ (share : Share). share.id < next) (λ (share : Share). share.id < next + 1) (λ share less. omega arith) live is.below)
      (All-cons (λ (share : Share). share.id < next + 1) share [] (omega (arith, e)) (All-nil (λ (share : Share). share.id < next + 1)));
}
  where
    below : All (λ n. n < next) (ids live)
    below = All-map (λ n. n < next) (λ (share : Share). share.id) live is.below

    longer : ids (live ++ share ∷ []) ≡ ids live ++ next ∷ []
    longer = map-append (λ (share : Share). share.id) live (share ∷ []) ∙ ap (λ n. ids live ++ n ∷ []) e

same_ids : (live : List Share) (i : ℕ) (share : Share) → i < length live → share.id ≡ (share_at live i).id → ids (set live i share) ≡ ids live
same_ids [] i share there e = refl
same_ids (other ∷ live) zero share there e = ap (λ n. n ∷ ids live) e
same_ids (other ∷ live) (suc i) share there e = ap (λ (l : List ℕ). other.id ∷ l) (same_ids live i share (omega arith) e)

pub ids_set : (next : ℕ) (live : List Share) (i : ℕ) (share : Share) → i < length live → share.id ≡ (share_at live i).id → HasIds next live
    → HasIds next (set live i share)
ids_set next live i share there e is = record {
  distinct = subst AreDistinct (sym (same_ids live i share there e)) is.distinct;
  rising = subst IsNonDecreasing (sym (same_ids live i share there e)) is.rising;
  below = All-set (λ (share : Share). share.id < next) live i share (omega (arith, e, is.below i no_share there)) is.below;
}

pub ids_remove : (next : ℕ) (live : List Share) (i : ℕ) → i < length live → HasIds next live → HasIds next (remove live i)
ids_remove next live i there is = record {
  distinct =
      λ b. omega (
        arith,
        ap (times b) (map_remove (λ (share : Share). share.id) live i),
        sum_by-remove (is_id b) (ids live) i 0 (omega (arith, length-map live (λ (share : Share). share.id))),
        is.distinct b,
      );
  rising = subst IsNonDecreasing (sym (map_remove (λ (share : Share). share.id) live i))
      (rising_remove (ids live) i (omega (arith, length-map live (λ (share : Share). share.id))) is.rising);
  below = All-remove (λ (share : Share). share.id < next) live i there is.below;
}
