-- The entries agree after a settle: the buffers of a put go from the actor to the ring, those of a take the other way
use Rattle.std.proofs.Common.{ℕ, ◌+◌, ◌-◌, ◌<◌, ◌≤◌, ◌≢◌, ◌≡◌, ◌⊎◌, inl, inr, List, [], ◌∷◌, ◌++◌, length, take, drop, refl, ap, sym, subst, ◌∙◌, arith}
use Rattle.std.proofs.Common.{true, false, Bool}
use Rattle.std.specs.Prelude.{slice_get, slice_set, Some, ◌==◌, nat_lt, ◌^◌, if◌then◌else◌}
use Rattle.std.specs.List.{flat_map, list_any, sum_by, range_with_len}
use Rattle.std.proofs.lemmas.List.{length-set, get_or-set_other, append-nil, take-append-drop}
use Rattle.std.proofs.lemmas.List.FromFn.{length-range_with_len}
use Rattle.std.proofs.lemmas.Option.{slice_get_within}
use Rattle.std.proofs.lemmas.List.Sums.{sum_by-cons, sum_by-append}
use Rattle.std.proofs.lemmas.Bool.Decides.{nat_tests}
use Rattle.ringcore_laws.specs.declared.contents.Item.{Item}
use Rattle.ringcore_laws.specs.declared.protocol.Place.{Place}
use Rattle.ringcore_laws.specs.declared.protocol.Place.TheVariants.{AtRing, Held, Cached, Nowhere}
use Rattle.ringcore_laws.specs.Sound.{holds, occurrences}
use Rattle.ringcore_laws.specs.FreeRings.{buffers_had}
use Rattle.ringcore_laws.specs.History.{Actor, tags, is_cached, buffers_of_actor}
use Rattle.ringcore_laws.specs.Place.{positions_from}
use Rattle.ringcore_laws.proofs.Laws.{same_or_not, sum_by_same}
use Rattle.ringcore_laws.proofs.FreeRoom.{count_all}
use Rattle.ringcore_laws.proofs.RingLaws.{below_or_not}
use Rattle.ringcore.specs.declared.ring.Ring.{Ring}
use Rattle.ringcore.specs.declared.ring.Words.{Words}
use Rattle.ringcore.specs.declared.member.Member.{Member}
use Rattle.ringcore.specs.Agree.{EntriesAgree, HandAgrees, IsNamed}
use Rattle.ringcore.specs.Entries.{entry, is_cached_at, is_held_at, positions_on, times_with, with_each, with_items_at}
use Rattle.ringcore.proofs.EntrySteps.{held_is, length-with_each, length-with_items_at, occurs_apart, occurs_here, within}
use Rattle.ringcore.proofs.HandSteps.{SeenAlike, alike, apart_test, each_queued, entries_lift, same_test, written_one}

-- 1. what is where

occurs_both : (b : ℕ) (xs ys : List ℕ) → occurrences b (xs ++ ys) ≡ occurrences b xs + occurrences b ys
occurs_both b xs ys = sum_by-append (λ n. if n == b then 1 else 0) xs ys

unwritten : (places : List Place) (xs : List ℕ) (x : Place) (b : ℕ) → occurrences b xs ≡ 0 → entry (with_each places xs x) b ≡ entry places b
unwritten places [] x b none = refl
unwritten places (c ∷ xs) x b none = elim (same_or_not b c) [
  | inl same ↦
      absurd (omega (arith, none, subst (λ (v : ℕ). occurrences v (c ∷ xs) ≡ 1 + occurrences v xs) (sym same) (occurs_here c xs)))
  | inr apart ↦
      unwritten (slice_set places c x) xs x b (omega (arith, none, occurs_apart b c xs apart)) ∙ get_or-set_other places c b x Nowhere apart
]

written : (places : List Place) (xs : List ℕ) (x : Place) (b : ℕ) → b < length places → 0 < occurrences b xs → entry (with_each places xs x) b ≡ x
written places [] x b lt some = absurd (omega (arith, some))
written places (c ∷ xs) x b lt some = elim (below_or_not 0 (occurrences b xs)) [
  | inl more ↦ written (slice_set places c x) xs x b (omega (arith, lt, length-set places c x)) more
  | inr none ↦
      unwritten (slice_set places c x) xs x b (omega (arith, none)) ∙ (elim (same_or_not b c) [
        | inl same ↦ written_one places c b x same (omega (arith, lt, ap (λ (v : ℕ). v) same))
        | inr apart ↦ absurd (omega (arith, some, none, occurs_apart b c xs apart))
      ])
]

positions-append : (b p : ℕ) (xs ys : List Item) → positions_from b p (xs ++ ys) ≡ positions_from b p xs ++ positions_from b (p + length xs) ys
positions-append b p [] ys = ap (λ (v : ℕ). positions_from b v ys) (let h : p ≡ p + 0 = omega arith in h)
positions-append b p (x ∷ xs) ys =
    shape (nat_lt 0 (occurrences b (tags x))) (positions_from b (p + 1) (xs ++ ys)) (positions_from b (p + 1) xs) (positions_from b (p + length (x ∷ xs)) ys)
    (positions-append b (p + 1) xs ys
    ∙ ap (λ (v : ℕ). positions_from b (p + 1) xs ++ positions_from b v ys) (let h : p + 1 + length xs ≡ p + length (x ∷ xs) = omega arith in h))
  where
    shape : (t : Bool) (l r s : List ℕ) → l ≡ r ++ s → (if t then p ∷ l else l) ≡ (if t then p ∷ r else r) ++ s
    shape true l r s h = ap (λ v. p ∷ v) h
    shape false l r s h = h

positions_here : (b p : ℕ) (x : Item) (xs : List Item) → 0 < occurrences b (tags x) → positions_from b p (x ∷ xs) ≡ p ∷ positions_from b (p + 1) xs
positions_here b p x xs some =
    ap (λ t. if t then p ∷ positions_from b (p + 1) xs else positions_from b (p + 1) xs)
    (let e : nat_lt 0 (occurrences b (tags x)) ≡ true = grind (arith, nat_tests) in e)

positions_past : (b p : ℕ) (x : Item) (xs : List Item) → occurrences b (tags x) ≡ 0 → positions_from b p (x ∷ xs) ≡ positions_from b (p + 1) xs
positions_past b p x xs none =
    ap (λ t. if t then p ∷ positions_from b (p + 1) xs else positions_from b (p + 1) xs)
    (let e : nat_lt 0 (occurrences b (tags x)) ≡ false = grind (arith, nat_tests) in e)

none_positions : (b p : ℕ) (items : List Item) → occurrences b (flat_map tags items) ≡ 0 → positions_from b p items ≡ []
none_positions b p [] none = refl
none_positions b p (x ∷ xs) none =
    let split = occurs_both b (tags x) (flat_map tags xs) in
    positions_past b p x xs (omega (arith, none, split)) ∙ none_positions b (p + 1) xs (omega (arith, none, split))

some_positions : (b p : ℕ) (items : List Item) → 0 < occurrences b (flat_map tags items)
    → (q : ℕ) × (rest : List ℕ) × (positions_from b p items ≡ q ∷ rest)
some_positions b p [] some = absurd (omega (arith, some))
some_positions b p (x ∷ xs) some = elim (below_or_not 0 (occurrences b (tags x))) [
  | inl here ↦ (p, positions_from b (p + 1) xs, positions_here b p x xs here)
  | inr none ↦
      let split = occurs_both b (tags x) (flat_map tags xs) in
      let later = some_positions b (p + 1) xs (omega (arith, some, none, split)) in
      (later.0, later.1, positions_past b p x xs (omega (arith, none)) ∙ later.2)
]

queued_none : (places : List Place) (r p b : ℕ) (items : List Item) → occurrences b (flat_map tags items) ≡ 0
    → entry (with_items_at places r p items) b ≡ entry places b
queued_none places r p b [] none = refl
queued_none places r p b (x ∷ xs) none =
    let split = occurs_both b (tags x) (flat_map tags xs) in
    queued_none (with_each places (tags x) (AtRing r p)) r (p + 1) b xs (omega (arith, none, split))
    ∙ unwritten places (tags x) (AtRing r p) b (omega (arith, none, split))

queued_some : (places : List Place) (r p b : ℕ) (items : List Item) → b < length places → 0 < occurrences b (flat_map tags items)
    → occurrences b (flat_map tags items) ≤ 1
    → (q : ℕ) × (entry (with_items_at places r p items) b ≡ AtRing r q) × (positions_from b p items ≡ q ∷ [])
queued_some places r p b [] lt some few = absurd (omega (arith, some))
queued_some places r p b (x ∷ xs) lt some few =
    let split = occurs_both b (tags x) (flat_map tags xs) in
    elim (below_or_not 0 (occurrences b (tags x))) [
      | inl here ↦ (
        p,
        queued_none (with_each places (tags x) (AtRing r p)) r (p + 1) b xs (omega (arith, few, here, split)) ∙ written places (tags x) (AtRing r p) b lt here,
        positions_here b p x xs here ∙ ap (λ v. p ∷ v) (none_positions b (p + 1) xs (omega (arith, few, here, split))),
      )
      | inr none ↦
          let later = queued_some (with_each places (tags x) (AtRing r p)) r (p + 1) b xs (omega (arith, lt, length-with_each places (tags x) (AtRing r p)))
          (omega (arith, some, none, split)) (omega (arith, few, none, split)) in
          (later.0, later.1, positions_past b p x xs (omega (arith, none)) ∙ later.2)
    ]

-- 2. how many buffers an actor has

sum_pair : (f g : ℕ → ℕ) (xs : List ℕ) → sum_by (λ b. f b + g b) xs ≡ sum_by f xs + sum_by g xs
sum_pair f g [] = refl
sum_pair f g (x ∷ xs) = omega (arith, sum_by-cons (λ b. f b + g b) x xs, sum_by-cons f x xs, sum_by-cons g x xs, sum_pair f g xs)

sum_few : (f : ℕ → ℕ) (xs : List ℕ) → ((b : ℕ) → f b ≤ 1) → sum_by f xs ≤ length xs
sum_few f [] few = omega arith
sum_few f (x ∷ xs) few = omega (arith, sum_by-cons f x xs, few x, sum_few f xs few)

pub had_moved : (pool : ℕ) (f g : ℕ → ℕ) (numbers : List ℕ) → ((b : ℕ) → f b ≡ g b + occurrences b numbers)
    → ((b : ℕ) → pool ≤ b → occurrences b numbers ≡ 0)
    → sum_by f (range_with_len 0 pool) ≡ sum_by g (range_with_len 0 pool) + length numbers
had_moved pool f g numbers each out =
    let all = range_with_len 0 pool in
    omega (
      arith,
      sum_by_same f (λ b. g b + occurrences b numbers) all each,
      sum_pair g (λ b. occurrences b numbers) all,
      count_all pool numbers out,
    )

times_few : (i : ℕ) (x : Place) → times_with i x ≤ 1
times_few i (AtRing r p) = omega arith
times_few i Nowhere = omega arith
times_few i (Held j) = by_test (j == i)
  where
    by_test : (t : Bool) → (if t then 1 else 0) ≤ 1
    by_test true = omega arith
    by_test false = omega arith
times_few i (Cached j) = by_test (j == i)
  where
    by_test : (t : Bool) → (if t then 1 else 0) ≤ 1
    by_test true = omega arith
    by_test false = omega arith

-- an actor has at most all buffers
pub had_few : (pool : ℕ) (places : List Place) (i : ℕ) (a : Actor) (m : Member) → HandAgrees pool places i a m → buffers_of_actor pool a ≤ pool
unfolding buffers_had
had_few pool places i a m h =
    omega (
      arith,
      sum_few (λ b. holds tags b a.party) (range_with_len 0 pool) (λ b. omega (arith, h.held b, times_few i (entry places b))),
      length-range_with_len 0 pool,
    )

-- 3. what became of one entry

-- nothing
pub record Stays (before after : Place) (times : ℕ) : Type 0 where
  pub same : after ≡ before
  pub none : times ≡ 0

-- the buffer went from the actor to the ring, or the other way
pub record Goes (i ring : ℕ) (before after : Place) (times : ℕ) : Type 0 where
  pub held : before ≡ Held i
  pub at : ℕ
  pub queued : after ≡ AtRing ring at
  pub once : times ≡ 1

pub record Comes (i ring : ℕ) (before after : Place) (times : ℕ) : Type 0 where
  pub at : ℕ
  pub queued : before ≡ AtRing ring at
  pub held : after ≡ Held i
  pub once : times ≡ 1

with_own : (i : ℕ) → times_with i (Held i) ≡ 1
with_own i = ap (λ t. if t then 1 else 0) (same_test i)

with_other : (i j : ℕ) → j ≢ i → times_with j (Held i) ≡ 0
with_other i j apart = ap (λ t. if t then 1 else 0) (apart_test i j apart)

on_own : (ring q : ℕ) → positions_on ring (AtRing ring q) ≡ q ∷ []
on_own ring q = ap (λ t. if t then q ∷ [] else []) (same_test ring)

on_other : (ring r q : ℕ) → r ≢ ring → positions_on r (AtRing ring q) ≡ []
on_other ring r q apart = ap (λ t. if t then q ∷ [] else []) (apart_test ring r apart)

goes_alike : (i ring times : ℕ) (x y : Place) → Goes i ring x y times → SeenAlike i x y
goes_alike i ring times x y g = record {
  times = λ j apart. ap (times_with j) g.queued ∙ (sym (with_other i j apart) ∙ sym (ap (times_with j) g.held));
  cached = λ j apart. ap (is_cached_at j) g.queued ∙ sym (ap (is_cached_at j) g.held);
}

comes_alike : (i ring times : ℕ) (x y : Place) → Comes i ring x y times → SeenAlike i x y
comes_alike i ring times x y g = record {
  times = λ j apart. ap (times_with j) g.held ∙ (with_other i j apart ∙ sym (ap (times_with j) g.queued));
  cached = λ j apart. ap (is_cached_at j) g.held ∙ sym (ap (is_cached_at j) g.queued);
}

first_of : List ℕ → ℕ
first_of [] = 0
first_of (x ∷ xs) = x

second_nil : (xs ys : List ℕ) → xs ++ ys ≡ [] → ys ≡ []
second_nil [] ys h = h
second_nil (x ∷ xs) ys h = absurd (let u : x ∷ (xs ++ ys) ≡ [] = h in cc)

-- an entry that has a position on a ring has no other there
only_one : (ring : ℕ) (x : Place) (q : ℕ) (more : List ℕ) → positions_on ring x ≡ q ∷ more → (x ≡ AtRing ring q) × (more ≡ [])
unfolding first_of
only_one ring (Held j) q more h = absurd (let u : [] ≡ q ∷ more = h in cc)
only_one ring (Cached j) q more h = absurd (let u : [] ≡ q ∷ more = h in cc)
only_one ring Nowhere q more h = absurd (let u : [] ≡ q ∷ more = h in cc)
only_one ring (AtRing s p) q more h = by_test (s == ring) refl h
  where
    by_test : (t : Bool) → (s == ring) ≡ t → (if t then p ∷ [] else []) ≡ q ∷ more → (AtRing s p ≡ AtRing ring q) × (more ≡ [])
    by_test true e g =
        let own : s ≡ ring = grind (arith, nat_tests) in
        (ap (λ v. AtRing v p) own ∙ ap (λ v. AtRing ring v) (ap first_of g), sym (ap (drop 1) g))
    by_test false e g = absurd (let u : [] ≡ q ∷ more = g in cc)

-- 4. all entries

module _ (pool : ℕ) (rings : List Ring) (places : List Place) (members : List Member) (actors : List Actor) (i : ℕ) (a b : Actor) (m n : Member) (ring : ℕ)
    (x y : Ring)
    (e : EntriesAgree pool rings places members actors) (ha : slice_get actors i ≡ Some a) (hm : slice_get members i ≡ Some m)
    (hr : slice_get rings ring ≡ Some x) (small : length places < 2 ^ 64) (number : n.number ≡ m.number) (marks : b.cached ≡ a.cached) where
  hand : HandAgrees pool places i a m
  hand = e.each_hand i a m ha hm

  in_rings : ring < length rings
  in_rings = slice_get_within rings ring x hr

  in_members : i < length members
  in_members = slice_get_within members i m hm

  -- a number that is put is at its position
  put_case : (start : ℕ) (items : List Item) (c : ℕ) → (0 < occurrences c (flat_map tags items) → is_held_at i (entry places c) ≡ true)
      → occurrences c (flat_map tags items) ≤ 1
      → Stays (entry places c) (entry (with_items_at places ring start items) c) (occurrences c (flat_map tags items))
      ⊎ ((g : Goes i ring (entry places c) (entry (with_items_at places ring start items) c) (occurrences c (flat_map tags items)))
      × (positions_from c start items ≡ g.at ∷ []))
  put_case start items c claimed once = elim (below_or_not 0 (occurrences c (flat_map tags items))) [
    | inr none ↦ inl record { same = queued_none places ring start c items (omega (arith, none)); none = omega (arith, none) }
    | inl some ↦
        let held = held_is i (entry places c) (claimed some) in
        let lt = within places c (Held i) held (λ h. absurd (let u : Held i ≡ Nowhere = h in cc)) in
        let is = queued_some places ring start c items lt some once in
        inr (record { held = held; at = is.0; queued = is.1; once = omega (arith, some, once) }, is.2)
  ]

  pub entries_put : (start : ℕ) (items : List Item)
      → ((c : ℕ) → 0 < occurrences c (flat_map tags items) → is_held_at i (entry places c) ≡ true)
      → ((c : ℕ) → occurrences c (flat_map tags items) ≤ 1)
      → x.take.tail + length x.queue.items ≡ start → y.take ≡ x.take → y.queue.items ≡ x.queue.items ++ items
      → (length (flat_map tags items) < 2 ^ 64 → n.count ≡ m.count - length (flat_map tags items))
      → ((c : ℕ) → holds tags c b.party ≡ holds tags c a.party - occurrences c (flat_map tags items))
      → EntriesAgree pool (slice_set rings ring y) (with_items_at places ring start items) (slice_set members i n) (slice_set actors i b)
  unfolding buffers_had
  entries_put start items claimed once at taking queued counted left =
      entries_lift pool rings (slice_set rings ring y) places new members actors i b n e (length-with_items_at places ring start items)
      (length-set rings ring y) record { number = number ∙ hand.number; count = count; held = held; cached = cached }
      (λ c. elim (case c) [
        | inl s ↦ alike i (entry places c) (entry new c) s.same
        | inr g ↦ goes_alike i ring (occurrences c numbers) (entry places c) (entry new c) g.0
      ])
      (each_queued rings ring x y places new hr e.queued own others) named
    where
      new : List Place
      new = with_items_at places ring start items

      numbers : List ℕ
      numbers = flat_map tags items

      case : (c : ℕ) → Stays (entry places c) (entry new c) (occurrences c numbers)
          ⊎ ((g : Goes i ring (entry places c) (entry new c) (occurrences c numbers)) × (positions_from c start items ≡ g.at ∷ []))
      case c = put_case start items c (claimed c) (once c)

      was : (c : ℕ) → holds tags c a.party ≡ holds tags c b.party + occurrences c numbers
      was c = elim (case c) [
        | inl s ↦ omega (arith, left c, s.none)
        | inr g ↦
            let one : holds tags c a.party ≡ 1 = hand.held c ∙ (ap (times_with i) (g.0).held ∙ with_own i) in
            omega (arith, left c, (g.0).once)
      ]

      out : (c : ℕ) → pool ≤ c → occurrences c numbers ≡ 0
      out c le = elim (case c) [
        | inl s ↦ s.none
        | inr g ↦
            absurd (omega (arith, le, e.sized, within places c (Held i) (g.0).held (λ h. absurd (let u : Held i ≡ Nowhere = h in cc))))
      ]

      moved : sum_by (λ c. holds tags c a.party) (range_with_len 0 pool) ≡ sum_by (λ c. holds tags c b.party) (range_with_len 0 pool) + length numbers
      moved = had_moved pool (λ c. holds tags c a.party) (λ c. holds tags c b.party) numbers was out

      count : n.count ≡ sum_by (λ c. holds tags c b.party) (range_with_len 0 pool)
      count =
          let had : m.count ≡ sum_by (λ c. holds tags c a.party) (range_with_len 0 pool) = hand.count in
          let few : sum_by (λ c. holds tags c a.party) (range_with_len 0 pool) ≤ pool = had_few pool places i a m hand in
          omega (arith, counted (omega (arith, moved, few, e.sized, small)), had, moved)

      held : (c : ℕ) → holds tags c b.party ≡ times_with i (entry new c)
      held c = elim (case c) [
        | inl s ↦ omega (arith, left c, s.none, hand.held c, ap (times_with i) s.same)
        | inr g ↦
            let one : holds tags c a.party ≡ 1 = hand.held c ∙ (ap (times_with i) (g.0).held ∙ with_own i) in
            let none : times_with i (entry new c) ≡ 0 = ap (times_with i) (g.0).queued in
            omega (arith, left c, (g.0).once)
      ]

      cached : (c : ℕ) → is_cached b c ≡ is_cached_at i (entry new c)
      cached c =
          ap (λ v. list_any (λ z. z == c) v) marks
          ∙ (hand.cached c ∙ (elim (case c) [
            | inl s ↦ sym (ap (is_cached_at i) s.same)
            | inr g ↦ ap (is_cached_at i) (g.0).held ∙ sym (ap (is_cached_at i) (g.0).queued)
          ]))

      own : (c : ℕ) → positions_from c y.take.tail y.queue.items ≡ positions_on ring (entry new c)
      own c =
          ap (λ (w : Words). positions_from c w.tail y.queue.items) taking
          ∙ (ap (positions_from c x.take.tail) queued
          ∙ (positions-append c x.take.tail x.queue.items items
          ∙ (ap (λ v. v ++ positions_from c (x.take.tail + length x.queue.items) items) (e.queued ring x hr c)
          ∙ (ap (λ (v : ℕ). positions_on ring (entry places c) ++ positions_from c v items) at
          ∙ (elim (case c) [
            | inl s ↦
                ap (λ v. positions_on ring (entry places c) ++ v) (none_positions c start items s.none)
                ∙ (append-nil (positions_on ring (entry places c)) ∙ sym (ap (positions_on ring) s.same))
            | inr g ↦
                ap (λ v. positions_on ring (entry places c) ++ v) g.1
                ∙ (ap (λ v. positions_on ring v ++ (g.0).at ∷ []) (g.0).held ∙ (sym (on_own ring (g.0).at) ∙ sym (ap (positions_on ring) (g.0).queued)))
          ])))))

      others : (r c : ℕ) → r ≢ ring → positions_on r (entry new c) ≡ positions_on r (entry places c)
      others r c apart = elim (case c) [
        | inl s ↦ ap (positions_on r) s.same
        | inr g ↦ ap (positions_on r) (g.0).queued ∙ (on_other ring r (g.0).at apart ∙ sym (ap (positions_on r) (g.0).held))
      ]

      named : (c : ℕ) → IsNamed (length rings) (length members) (entry new c)
      named c = elim (case c) [
        | inl s ↦ subst (λ (v : Place). IsNamed (length rings) (length members) v) (sym s.same) (e.named c)
        | inr g ↦ subst (λ (v : Place). IsNamed (length rings) (length members) v) (sym (g.0).queued) in_rings
      ]

  -- the positions in the whole queue are those in what is taken and those in what is left
  whole : (count c : ℕ) → positions_from c x.take.tail x.queue.items
      ≡ positions_from c x.take.tail (take count x.queue.items)
      ++ positions_from c (x.take.tail + length (take count x.queue.items)) (drop count x.queue.items)
  whole count c =
      ap (positions_from c x.take.tail) (sym (take-append-drop count x.queue.items))
      ∙ positions-append c x.take.tail (take count x.queue.items) (drop count x.queue.items)

  -- a number that is taken was on the ring, and is nowhere else there
  take_case : (count c : ℕ) → occurrences c (flat_map tags (take count x.queue.items)) ≤ 1
      → Stays (entry places c) (entry (with_each places (flat_map tags (take count x.queue.items)) (Held i)) c)
      (occurrences c (flat_map tags (take count x.queue.items)))
      ⊎ (Comes i ring (entry places c) (entry (with_each places (flat_map tags (take count x.queue.items)) (Held i)) c)
      (occurrences c (flat_map tags (take count x.queue.items)))
      × (positions_from c (x.take.tail + length (take count x.queue.items)) (drop count x.queue.items) ≡ []))
  take_case count c once = elim (below_or_not 0 (occurrences c (flat_map tags (take count x.queue.items)))) [
    | inr none ↦ inl record { same = unwritten places (flat_map tags (take count x.queue.items)) (Held i) c (omega (arith, none)); none = omega (arith, none) }
    | inl some ↦
        let rest = positions_from c (x.take.tail + length (take count x.queue.items)) (drop count x.queue.items) in
        let first = some_positions c x.take.tail (take count x.queue.items) some in
        let is = only_one ring (entry places c) first.0 (first.1 ++ rest)
        (sym (e.queued ring x hr c) ∙ (whole count c ∙ ap (λ v. v ++ rest) first.2)) in
        let lt = within places c (AtRing ring first.0) is.0 (λ h. absurd (let u : AtRing ring first.0 ≡ Nowhere = h in cc)) in
        inr (
          record {
            at = first.0;
            queued = is.0;
            held = written places (flat_map tags (take count x.queue.items)) (Held i) c lt some;
            once = omega (arith, some, once);
          },
          second_nil first.1 rest is.1,
        )
  ]

  pub entries_take : (count : ℕ)
      → ((c : ℕ) → occurrences c (flat_map tags (take count x.queue.items)) ≤ 1)
      → y.take.tail ≡ x.take.tail + length (take count x.queue.items) → y.queue.items ≡ drop count x.queue.items
      → (m.count + length (flat_map tags (take count x.queue.items)) < 2 ^ 64
      → n.count ≡ m.count + length (flat_map tags (take count x.queue.items)))
      → ((c : ℕ) → holds tags c b.party ≡ holds tags c a.party + occurrences c (flat_map tags (take count x.queue.items)))
      → EntriesAgree pool (slice_set rings ring y) (with_each places (flat_map tags (take count x.queue.items)) (Held i)) (slice_set members i n)
      (slice_set actors i b)
  unfolding buffers_had
  entries_take count once at queued counted got =
      entries_lift pool rings (slice_set rings ring y) places new members actors i b n e (length-with_each places numbers (Held i))
      (length-set rings ring y) record { number = number ∙ hand.number; count = had_now; held = held; cached = cached }
      (λ c. elim (case c) [
        | inl s ↦ alike i (entry places c) (entry new c) s.same
        | inr g ↦ comes_alike i ring (occurrences c numbers) (entry places c) (entry new c) g.0
      ])
      (each_queued rings ring x y places new hr e.queued own others) named
    where
      numbers : List ℕ
      numbers = flat_map tags (take count x.queue.items)

      new : List Place
      new = with_each places numbers (Held i)

      left : ℕ → List ℕ
      left c = positions_from c (x.take.tail + length (take count x.queue.items)) (drop count x.queue.items)

      case : (c : ℕ) → Stays (entry places c) (entry new c) (occurrences c numbers)
          ⊎ (Comes i ring (entry places c) (entry new c) (occurrences c numbers)
          × (positions_from c (x.take.tail + length (take count x.queue.items)) (drop count x.queue.items) ≡ []))
      case c = take_case count c (once c)

      held : (c : ℕ) → holds tags c b.party ≡ times_with i (entry new c)
      held c = elim (case c) [
        | inl s ↦ omega (arith, got c, s.none, hand.held c, ap (times_with i) s.same)
        | inr g ↦
            let none : times_with i (entry places c) ≡ 0 = ap (times_with i) (g.0).queued in
            let one : times_with i (entry new c) ≡ 1 = ap (times_with i) (g.0).held ∙ with_own i in
            omega (arith, got c, hand.held c, (g.0).once)
      ]

      out : (c : ℕ) → pool ≤ c → occurrences c numbers ≡ 0
      out c le = elim (case c) [
        | inl s ↦ s.none
        | inr g ↦
            absurd (omega (
              arith,
              le,
              e.sized,
              within places c (AtRing ring (g.0).at) (g.0).queued (λ h. absurd (let u : AtRing ring (g.0).at ≡ Nowhere = h in cc)),
            ))
      ]

      moved : sum_by (λ c. holds tags c b.party) (range_with_len 0 pool) ≡ sum_by (λ c. holds tags c a.party) (range_with_len 0 pool) + length numbers
      moved = had_moved pool (λ c. holds tags c b.party) (λ c. holds tags c a.party) numbers got out

      had_now : n.count ≡ sum_by (λ c. holds tags c b.party) (range_with_len 0 pool)
      had_now =
          let had : m.count ≡ sum_by (λ c. holds tags c a.party) (range_with_len 0 pool) = hand.count in
          let few : sum_by (λ c. holds tags c b.party) (range_with_len 0 pool) ≤ pool = few_now in
          omega (arith, counted (omega (arith, moved, had, few, e.sized, small)), had, moved)
        where
          few_now : sum_by (λ c. holds tags c b.party) (range_with_len 0 pool) ≤ pool
          few_now =
              omega (
                arith,
                sum_few (λ c. holds tags c b.party) (range_with_len 0 pool) (λ c. omega (arith, held c, times_few i (entry new c))),
                length-range_with_len 0 pool,
              )

      cached : (c : ℕ) → is_cached b c ≡ is_cached_at i (entry new c)
      cached c =
          ap (λ v. list_any (λ z. z == c) v) marks
          ∙ (hand.cached c ∙ (elim (case c) [
            | inl s ↦ sym (ap (is_cached_at i) s.same)
            | inr g ↦ ap (is_cached_at i) (g.0).queued ∙ sym (ap (is_cached_at i) (g.0).held)
          ]))

      own : (c : ℕ) → positions_from c y.take.tail y.queue.items ≡ positions_on ring (entry new c)
      own c =
          ap (λ (v : ℕ). positions_from c v y.queue.items) at
          ∙ (ap (positions_from c (x.take.tail + length (take count x.queue.items))) queued
          ∙ (elim (case c) [
            | inl s ↦
                sym (whole count c ∙ ap (λ v. v ++ left c) (none_positions c x.take.tail (take count x.queue.items) s.none))
                ∙ (e.queued ring x hr c ∙ sym (ap (positions_on ring) s.same))
            | inr g ↦ g.1 ∙ sym (ap (positions_on ring) (g.0).held)
          ]))

      others : (r c : ℕ) → r ≢ ring → positions_on r (entry new c) ≡ positions_on r (entry places c)
      others r c apart = elim (case c) [
        | inl s ↦ ap (positions_on r) s.same
        | inr g ↦ ap (positions_on r) (g.0).held ∙ sym (ap (positions_on r) (g.0).queued ∙ on_other ring r (g.0).at apart)
      ]

      named : (c : ℕ) → IsNamed (length rings) (length members) (entry new c)
      named c = elim (case c) [
        | inl s ↦ subst (λ (v : Place). IsNamed (length rings) (length members) v) (sym s.same) (e.named c)
        | inr g ↦ subst (λ (v : Place). IsNamed (length rings) (length members) v) (sym (g.0).held) in_members
      ]
