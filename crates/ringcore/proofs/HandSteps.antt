-- The entries agree with the buffers of the actors and of the rings after each step
use Rattle.std.proofs.Common.{ℕ, ◌<◌, ◌≢◌, ◌≡◌, inl, inr, List, [], ◌∷◌, length, refl, ap, sym, subst, ◌∙◌, arith}
use Rattle.std.proofs.Common.{true, false, Bool, cond}
use Rattle.std.specs.Prelude.{slice_get, slice_set, Some, not, ◌&&◌, ◌||◌, ◌==◌}
use Rattle.std.specs.List.{list_any, filter, sum_by, range_with_len}
use Rattle.std.proofs.lemmas.List.{length-set, get_or-set_same, get_or-set_other}
use Rattle.std.proofs.lemmas.Bool.Decides.{nat_tests}
use Rattle.ringcore_laws.specs.declared.protocol.Place.{Place}
use Rattle.ringcore_laws.specs.declared.protocol.Place.TheVariants.{Held, Cached, Nowhere}
use Rattle.ringcore_laws.specs.Sound.{holds}
use Rattle.ringcore_laws.specs.FreeRings.{buffers_had}
use Rattle.ringcore_laws.specs.History.{Actor, tags, is_cached}
use Rattle.ringcore_laws.specs.Place.{positions_from}
use Rattle.ringcore_laws.proofs.Laws.{same_or_not}
use Rattle.ringcore_laws.proofs.Lists.{get_set, get_set_other}
use Rattle.ringcore.specs.declared.ring.Ring.{Ring}
use Rattle.ringcore.specs.declared.member.Member.{Member}
use Rattle.ringcore.specs.Agree.{EntriesAgree, HandAgrees, IsNamed}
use Rattle.ringcore.specs.Entries.{entry, is_cached_at, is_held_at, positions_on, times_with}
use Rattle.ringcore.proofs.EntrySteps.{cached_is, held_is, within}

-- 1. one actor and its member changed, and what nobody else has

-- what other actors see of an entry
pub record SeenAlike (i : ℕ) (x y : Place) : Type 0 where
  pub times : (j : ℕ) → j ≢ i → times_with j y ≡ times_with j x
  pub cached : (j : ℕ) → j ≢ i → is_cached_at j y ≡ is_cached_at j x

pub alike : (i : ℕ) (x y : Place) → y ≡ x → SeenAlike i x y
alike i x y same = record { times = λ j apart. ap (times_with j) same; cached = λ j apart. ap (is_cached_at j) same }

pub apart_test : (i j : ℕ) → j ≢ i → (i == j) ≡ false
apart_test i j apart = grind (arith, nat_tests)

pub same_test : (i : ℕ) → (i == i) ≡ true
same_test i = grind (arith, nat_tests)

pub entries_lift : (pool : ℕ) (rings new_rings : List Ring) (places new : List Place) (members : List Member) (actors : List Actor) (i : ℕ) (a : Actor)
    (m : Member)
    → EntriesAgree pool rings places members actors → length new ≡ length places → length new_rings ≡ length rings → HandAgrees pool new i a m
    → ((b : ℕ) → SeenAlike i (entry places b) (entry new b))
    → ((r : ℕ) (ring : Ring) → slice_get new_rings r ≡ Some ring → (b : ℕ)
    → positions_from b ring.take.tail ring.queue.items ≡ positions_on r (entry new b))
    → ((b : ℕ) → IsNamed (length rings) (length members) (entry new b))
    → EntriesAgree pool new_rings new (slice_set members i m) (slice_set actors i a)
entries_lift pool rings new_rings places new members actors i a m e sized ring_count own others queued named = record {
  sized = sized ∙ e.sized;
  each_hand = λ j b n hb hn. elim (same_or_not j i) [
    | inl same ↦
        let ea : a ≡ b = get_set actors i a b (ap (slice_get (slice_set actors i a)) (sym same) ∙ hb) in
        let em : m ≡ n = get_set members i m n (ap (slice_get (slice_set members i m)) (sym same) ∙ hn) in
        subst (λ (v : ℕ). HandAgrees pool new v b n) (sym same)
        (subst (λ (v : Actor). HandAgrees pool new i v n) ea (subst (λ (v : Member). HandAgrees pool new i a v) em own))
    | inr apart ↦
        let h = e.each_hand j b n (sym (get_set_other actors i j a apart) ∙ hb) (sym (get_set_other members i j m apart) ∙ hn) in
        record {
          number = h.number;
          count = h.count;
          held = λ c. h.held c ∙ sym ((others c).times j apart);
          cached = λ c. h.cached c ∙ sym ((others c).cached j apart);
        }
  ];
  queued = queued;
  named = λ b.
      subst (λ (v : ℕ). IsNamed v (length (slice_set members i m)) (entry new b)) (sym ring_count)
      (subst (λ (v : ℕ). IsNamed (length rings) v (entry new b)) (sym (length-set members i m)) (named b));
}

-- the same buffers and marks
pub hand_same : (pool : ℕ) (places : List Place) (i : ℕ) (a b : Actor) (m n : Member) → HandAgrees pool places i a m
    → ((c : ℕ) → holds tags c b.party ≡ holds tags c a.party) → b.cached ≡ a.cached → n.number ≡ m.number → n.count ≡ m.count
    → HandAgrees pool places i b n
unfolding buffers_had
hand_same pool places i a b m n h held cached number count = record {
  number = number ∙ h.number;
  count = count ∙ (h.count ∙ ap (λ (f : ℕ → ℕ). sum_by f (range_with_len 0 pool)) (λ j c. sym (held c) j));
  held = λ c. held c ∙ h.held c;
  cached = λ c. ap (λ v. list_any (λ z. z == c) v) cached ∙ h.cached c;
}

-- an actor whose buffers and marks are unchanged, and rings with no item moved
pub entries_kept : (pool : ℕ) (rings new_rings : List Ring) (places : List Place) (members : List Member) (actors : List Actor) (i : ℕ) (a b : Actor)
    (m n : Member)
    → EntriesAgree pool rings places members actors → slice_get actors i ≡ Some a → slice_get members i ≡ Some m
    → ((c : ℕ) → holds tags c b.party ≡ holds tags c a.party) → b.cached ≡ a.cached → n.number ≡ m.number → n.count ≡ m.count
    → length new_rings ≡ length rings
    → ((r : ℕ) (ring : Ring) → slice_get new_rings r ≡ Some ring → (b : ℕ)
    → positions_from b ring.take.tail ring.queue.items ≡ positions_on r (entry places b))
    → EntriesAgree pool new_rings places (slice_set members i n) (slice_set actors i b)
entries_kept pool rings new_rings places members actors i a b m n e ha hm held cached number count ring_count queued =
    entries_lift pool rings new_rings places places members actors i b n e refl ring_count
    (hand_same pool places i a b m n (e.each_hand i a m ha hm) held cached number count)
    (λ c. alike i (entry places c) (entry places c) refl) queued e.named

-- the positions on each ring, if one ring changed
pub each_queued : (rings : List Ring) (ring : ℕ) (x y : Ring) (places new : List Place) → slice_get rings ring ≡ Some x
    → ((r : ℕ) (z : Ring) → slice_get rings r ≡ Some z → (b : ℕ) → positions_from b z.take.tail z.queue.items ≡ positions_on r (entry places b))
    → ((b : ℕ) → positions_from b y.take.tail y.queue.items ≡ positions_on ring (entry new b))
    → ((r b : ℕ) → r ≢ ring → positions_on r (entry new b) ≡ positions_on r (entry places b))
    → (r : ℕ) (z : Ring) → slice_get (slice_set rings ring y) r ≡ Some z → (b : ℕ)
    → positions_from b z.take.tail z.queue.items ≡ positions_on r (entry new b)
each_queued rings ring x y places new hx before own others r z hz b = elim (same_or_not r ring) [
  | inl same ↦
      let ez : y ≡ z = get_set rings ring y z (ap (slice_get (slice_set rings ring y)) (sym same) ∙ hz) in
      subst (λ (v : ℕ). positions_from b z.take.tail z.queue.items ≡ positions_on v (entry new b)) (sym same)
      (subst (λ (v : Ring). positions_from b v.take.tail v.queue.items ≡ positions_on ring (entry new b)) ez (own b))
  | inr apart ↦ before r z (sym (get_set_other rings ring r y apart) ∙ hz) b ∙ sym (others r b apart)
]

-- 2. marks

-- one mark less
any-filter : (b y : ℕ) (xs : List ℕ) → list_any (λ c. c == b) (filter (λ c. not (c == y)) xs) ≡ (not (b == y) && list_any (λ c. c == b) xs)
any-filter b y [] = and_false (not (b == y))
  where
    and_false : (t : Bool) → false ≡ (t && false)
    and_false true = refl
    and_false false = refl
any-filter b y (x ∷ xs) = by_tests (x == y) refl (any-filter b y xs)
  where
    ys : List ℕ
    ys = filter (λ c. not (c == y)) xs

    same : (x == y) ≡ true → (x == b) ≡ (b == y)
    same e = let h : x ≡ y = grind (arith, nat_tests) in let g : (y == b) ≡ (b == y) = grind (arith, nat_tests) in ap (λ v. v == b) h ∙ g

    differ : (x == y) ≡ false → (x == b) ≡ true → (b == y) ≡ false
    differ e h = grind (arith, nat_tests)

    drops : (t u v w : Bool) → t ≡ u → w ≡ (not u && v) → w ≡ (not u && (t || v))
    drops t true v w e h = h
    drops t false v w e h = h ∙ ap (λ z. z || v) (sym e)

    keeps : (t u v w : Bool) → (t ≡ true → u ≡ false) → w ≡ (not u && v) → (t || w) ≡ (not u && (t || v))
    keeps true u v w e h = sym (ap (λ z. not z && true) (e refl))
    keeps false u v w e h = h

    by_tests : (s : Bool) → (x == y) ≡ s → list_any (λ c. c == b) (filter (λ c. not (c == y)) xs) ≡ (not (b == y) && list_any (λ c. c == b) xs)
        → list_any (λ c. c == b) (cond (not s) (x ∷ filter (λ c. not (c == y)) xs) (filter (λ c. not (c == y)) xs))
        ≡ (not (b == y) && ((x == b) || list_any (λ c. c == b) xs))
    by_tests true e ih = drops (x == b) (b == y) (list_any (λ c. c == b) xs) (list_any (λ c. c == b) (filter (λ c. not (c == y)) xs)) (same e) ih
    by_tests false e ih = keeps (x == b) (b == y) (list_any (λ c. c == b) xs) (list_any (λ c. c == b) (filter (λ c. not (c == y)) xs)) (differ e) ih

-- the entry that was written, and any other
pub written_one : (places : List Place) (b c : ℕ) (x : Place) → c ≡ b → b < length places → entry (slice_set places b x) c ≡ x
written_one places b c x same lt = ap (entry (slice_set places b x)) same ∙ get_or-set_same places b x Nowhere lt

pub written_other : (places : List Place) (b c : ℕ) (x : Place) → c ≢ b → entry (slice_set places b x) c ≡ entry places c
written_other places b c x apart = get_or-set_other places b c x Nowhere apart

-- a buffer's entry goes from one with the actor to the other
pub entries_marked : (pool : ℕ) (rings : List Ring) (places : List Place) (members : List Member) (actors : List Actor) (i : ℕ) (a : Actor) (m : Member)
    (b : ℕ) (x y : Place) (marks : List ℕ)
    → EntriesAgree pool rings places members actors → slice_get actors i ≡ Some a → slice_get members i ≡ Some m
    → entry places b ≡ x → b < length places
    → ((j : ℕ) → times_with j y ≡ times_with j x) → SeenAlike i x y → ((r : ℕ) → positions_on r y ≡ positions_on r x)
    → IsNamed (length rings) (length members) y
    → list_any (λ z. z == b) marks ≡ is_cached_at i y
    → ((c : ℕ) → c ≢ b → list_any (λ z. z == c) marks ≡ is_cached a c)
    → EntriesAgree pool rings (slice_set places b y) (slice_set members i m)
    (slice_set actors i record { party = a.party; observed = a.observed; cached = marks })
entries_marked pool rings places members actors i a m b x y marks e ha hm is lt times seen positions named mark marks_kept =
    entries_lift pool rings rings places (slice_set places b y) members actors i record { party = a.party; observed = a.observed; cached = marks } m e
    (length-set places b y) refl
    record {
      number = h.number;
      count = h.count;
      held = λ c. h.held c ∙ sym (at c (λ v. times_with i v) (times i));
      cached = λ c. elim (same_or_not c b) [
        | inl same ↦ ap (λ v. list_any (λ z. z == v) marks) same ∙ (mark ∙ sym (ap (is_cached_at i) (written_one places b c y same lt)))
        | inr apart ↦ marks_kept c apart ∙ (h.cached c ∙ sym (ap (is_cached_at i) (written_other places b c y apart)))
      ];
    }
    (λ c. record { times = λ j apart. at c (λ v. times_with j v) (times j); cached = λ j apart. at c (λ v. is_cached_at j v) (seen.cached j apart) })
    (λ r ring hr c. e.queued r ring hr c ∙ sym (at c (λ v. positions_on r v) (positions r)))
    (λ c. elim (same_or_not c b) [
      | inl same ↦ subst (λ (v : Place). IsNamed (length rings) (length members) v) (sym (written_one places b c y same lt)) named
      | inr apart ↦ subst (λ (v : Place). IsNamed (length rings) (length members) v) (sym (written_other places b c y apart)) (e.named c)
    ])
  where
    h : HandAgrees pool places i a m
    h = e.each_hand i a m ha hm

    -- what is the same for both entries is the same for all
    at : {X : Type 0} (c : ℕ) (f : Place → X) → f y ≡ f x → f (entry (slice_set places b y) c) ≡ f (entry places c)
    at c f same = elim (same_or_not c b) [
      | inl own ↦ ap f (written_one places b c y own lt) ∙ (same ∙ sym (ap f (ap (entry places) own ∙ is)))
      | inr apart ↦ ap f (written_other places b c y apart)
    ]

pub entries_stashed : (pool : ℕ) (rings : List Ring) (places : List Place) (members : List Member) (actors : List Actor) (i : ℕ) (a : Actor) (m : Member)
    (b : ℕ)
    → EntriesAgree pool rings places members actors → slice_get actors i ≡ Some a → slice_get members i ≡ Some m
    → is_held_at i (entry places b) ≡ true
    → EntriesAgree pool rings (slice_set places b (Cached i)) (slice_set members i m)
    (slice_set actors i record { party = a.party; observed = a.observed; cached = b ∷ a.cached })
entries_stashed pool rings places members actors i a m b e ha hm held =
    let is = held_is i (entry places b) held in
    entries_marked pool rings places members actors i a m b (Held i) (Cached i) (b ∷ a.cached) e ha hm is
    (within places b (Held i) is (λ h. absurd (let u : Held i ≡ Nowhere = h in cc)))
    (λ j. refl) record { times = λ j apart. refl; cached = λ j apart. apart_test i j apart } (λ r. refl)
    (subst (λ (v : Place). IsNamed (length rings) (length members) v) is (e.named b))
    (ap (λ t. t || list_any (λ z. z == b) a.cached) (same_test b) ∙ sym (same_test i))
    (λ c apart. ap (λ t. t || list_any (λ z. z == c) a.cached) (apart_test b c apart))

pub entries_unstashed : (pool : ℕ) (rings : List Ring) (places : List Place) (members : List Member) (actors : List Actor) (i : ℕ) (a : Actor) (m : Member)
    (b : ℕ)
    → EntriesAgree pool rings places members actors → slice_get actors i ≡ Some a → slice_get members i ≡ Some m
    → is_cached_at i (entry places b) ≡ true
    → EntriesAgree pool rings (slice_set places b (Held i)) (slice_set members i m)
    (slice_set actors i record { party = a.party; observed = a.observed; cached = filter (λ c. not (c == b)) a.cached })
entries_unstashed pool rings places members actors i a m b e ha hm marked =
    let is = cached_is i (entry places b) marked in
    entries_marked pool rings places members actors i a m b (Cached i) (Held i) (filter (λ c. not (c == b)) a.cached) e ha hm is
    (within places b (Cached i) is (λ h. absurd (let u : Cached i ≡ Nowhere = h in cc))) (λ j. refl)
    record { times = λ j apart. refl; cached = λ j apart. sym (apart_test i j apart) } (λ r. refl)
    (subst (λ (v : Place). IsNamed (length rings) (length members) v) is (e.named b))
    (any-filter b b a.cached ∙ ap (λ t. not t && list_any (λ z. z == b) a.cached) (same_test b))
    (λ c apart. any-filter c b a.cached ∙ ap (λ t. not t && list_any (λ z. z == c) a.cached) (apart_test c b (λ h. apart (sym h))))
