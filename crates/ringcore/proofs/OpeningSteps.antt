-- The state right after the opening
use Rattle.std.proofs.Common.{ℕ, zero, suc, ◌+◌, ◌<◌, ◌≤◌, ◌≡◌, ◌≢◌, ◌∙◌, ◌⊎◌, inl, inr, List, [], ◌∷◌, ◌++◌, length, arith, true, false, Bool, ◌&&◌, cond}
use Rattle.std.proofs.Common.{refl, ap}
use Rattle.std.proofs.Common.{sym, subst}
use Rattle.std.specs.Prelude.{map, slice_get, slice_index, slice_index_or, None, Some, nat_lt, ◌==◌, ◌-◌, if◌then◌else◌}
use Rattle.std.specs.List.{filter, list_all, range_with_len, sum_by}
use Rattle.std.proofs.lemmas.List.{append-nil, length-append, length-map}
use Rattle.std.proofs.lemmas.List.Sums.{sum_by-cons}
use Rattle.std.proofs.lemmas.List.Elements.{filter-append}
use Rattle.std.proofs.lemmas.List.FromFn.{get_or-map-range_with_len, length-map-range_with_len}
use Rattle.std.proofs.lemmas.Option.{get_or_from_slice_get, slice_get_within}
use Rattle.std.proofs.lemmas.Bool.Decides.{nat_tests}
use Rattle.geom.specs.declared.plan.Mode.{Mode}
use Rattle.geom.specs.declared.plan.RingPlan.{RingPlan}
use Rattle.geom.specs.declared.plan.Side.{Side}
use Rattle.geom.specs.declared.plan.Side.TheVariants.{Put, Take}
use Rattle.ringcore_laws.specs.declared.contents.Item.{Item}
use Rattle.ringcore_laws.specs.Party.{newcomer}
use Rattle.ringcore_laws.specs.RingSide.{RingSide, side_of}
use Rattle.ringcore_laws.specs.FreeRings.{buffers_had}
use Rattle.ringcore_laws.specs.Place.{positions_from}
use Rattle.ringcore_laws.specs.declared.protocol.Place.{Place}
use Rattle.ringcore_laws.specs.declared.protocol.Place.TheVariants.{Held, Nowhere}
use Rattle.ringcore_laws.specs.Sound.{holds, moved, occurrences}
use Rattle.ringcore_laws.specs.History.{Actor, buffers_given, buffers_of_actor, opening, parties_of, tags}
use Rattle.ringcore_laws.specs.Runs.{IsPlan}
use Rattle.ringcore_laws.proofs.HistoryLaws.{and_true}
use Rattle.ringcore_laws.proofs.OpeningLaws.{from_opening, queue_of_opening, side_of_opening}
use Rattle.ringcore_laws.proofs.FreeRoom.{count_all}
use Rattle.ringcore_laws.proofs.Laws.{element, same_or_not}
use Rattle.ringcore_laws.proofs.RingLaws.{below_or_not}
use Rattle.ringcore.proofs.EntrySteps.{occurs_apart, occurs_here}
use Rattle.ringcore.specs.declared.member.Member.{Member}
use Rattle.ringcore.specs.declared.plan.WorldPlan.{WorldPlan}
use Rattle.ringcore.specs.declared.ring.Ring.{Ring}
use Rattle.ringcore.specs.declared.ring.Words.{Words}
use Rattle.ringcore.specs.Agree.{HandAgrees, IsNamed, ListsAgree, MemberAgrees, WordsAgree}
use Rattle.ringcore.specs.Entries.{entry, is_cached_at, positions_on, times_with}
use Rattle.ringcore.specs.Histories.{IsRight, opened_by}
use Rattle.ringcore.specs.Opening.{AreFresh, AreGiven, IsFresh, IsGiven}

pub below_all : (n : ℕ) (xs : List ℕ) → list_all (λ g. nat_lt g n) xs ≡ true → (b : ℕ) → b < length xs → slice_index xs b < n
below_all n [] all b lt = absurd (omega arith)
below_all n (x ∷ xs) all zero lt = let one : nat_lt x n ≡ true = (and_true (nat_lt x n) (list_all (λ g. nat_lt g n) xs) all).0 in grind (arith, nat_tests)
below_all n (x ∷ xs) all (suc b) lt = below_all n xs (and_true (nat_lt x n) (list_all (λ g. nat_lt g n) xs) all).1 b (omega arith)

pub all_below : (n : ℕ) (xs : List ℕ) → ((b : ℕ) → b < length xs → slice_index xs b < n) → list_all (λ g. nat_lt g n) xs ≡ true
all_below n [] each = refl
all_below n (x ∷ xs) each =
    both (nat_lt x n) (list_all (λ g. nat_lt g n) xs) (let here : x < n = each zero (omega arith) in grind (arith, nat_tests))
    (all_below n xs (λ b lt. each (suc b) (omega arith)))
  where
    both : (a b : Bool) → a ≡ true → b ≡ true → (a && b) ≡ true
    both true b one two = two
    both false b one two = one

pub each_below : (n : ℕ) (xs : List ℕ) → list_all (λ g. nat_lt g n) xs ≡ true → (b : ℕ) → b < length xs → slice_index xs b < n
each_below n [] all b lt = absurd (omega arith)
each_below n (x ∷ xs) all zero lt = let first = (and_true (nat_lt x n) (list_all (λ g. nat_lt g n) xs) all).0 in grind (arith, nat_tests, first)
each_below n (x ∷ xs) all (suc b) lt = each_below n xs (and_true (nat_lt x n) (list_all (λ g. nat_lt g n) xs) all).1 b (omega arith)

-- a range, and what passes a test of it, with one number more
pub range_more : (a n k : ℕ) → a + n ≡ k → range_with_len a (n + 1) ≡ range_with_len a n ++ k ∷ []
range_more a zero k at = ap (λ v. v ∷ []) (let h : a ≡ k = omega (arith, at) in h)
range_more a (suc n) k at = long n ∙ ap (λ v. a ∷ v) (range_more (a + 1) n k (omega (arith, at)))
  where
    long : (m : ℕ) → range_with_len a (suc m + 1) ≡ a ∷ range_with_len (a + 1) (m + 1)
    long m = ap (range_with_len a) (let h : suc m + 1 ≡ suc (m + 1) = omega arith in h)

pub gifts_more : (gifts : List ℕ) (i n : ℕ)
    → filter (λ b. slice_index gifts b == i) (range_with_len 0 (n + 1))
    ≡ filter (λ b. slice_index gifts b == i) (range_with_len 0 n) ++ (if slice_index gifts n == i then n ∷ [] else [])
gifts_more gifts i n =
    ap (filter (λ b. slice_index gifts b == i)) (range_more 0 n n (omega arith))
    ∙ filter-append (λ b. slice_index gifts b == i) (range_with_len 0 n) (n ∷ [])

pub gifts_taken : (gifts : List ℕ) (i n : ℕ) → slice_index gifts n ≡ i
    → filter (λ b. slice_index gifts b == i) (range_with_len 0 (n + 1)) ≡ filter (λ b. slice_index gifts b == i) (range_with_len 0 n) ++ n ∷ []
gifts_taken gifts i n same =
    let test : (slice_index gifts n == i) ≡ true = grind (arith, nat_tests) in
    gifts_more gifts i n ∙ ap (λ t. filter (λ b. slice_index gifts b == i) (range_with_len 0 n) ++ (if t then n ∷ [] else [])) test

pub gifts_passed : (gifts : List ℕ) (i n : ℕ) → slice_index gifts n ≢ i
    → filter (λ b. slice_index gifts b == i) (range_with_len 0 (n + 1)) ≡ filter (λ b. slice_index gifts b == i) (range_with_len 0 n)
gifts_passed gifts i n apart =
    let test : (slice_index gifts n == i) ≡ false = grind (arith, nat_tests) in
    gifts_more gifts i n ∙ (ap (λ t. filter (λ b. slice_index gifts b == i) (range_with_len 0 n) ++ (if t then n ∷ [] else [])) test
    ∙ append-nil (filter (λ b. slice_index gifts b == i) (range_with_len 0 n)))

pub given_more : (gifts : List ℕ) (members : List Member) (m : Member) → AreGiven gifts members → IsGiven gifts (length members) m
    → AreGiven gifts (members ++ m ∷ [])
given_more gifts members m all new = record { each = λ i d lt. at i d lt (below_or_not i (length members)) }
  where
    before : (xs : List Member) (i : ℕ) (d : Member) → i < length xs → slice_index_or (xs ++ m ∷ []) i d ≡ slice_index_or xs i d
    before [] i d lt = absurd (omega arith)
    before (x ∷ xs) zero d lt = refl
    before (x ∷ xs) (suc i) d lt = before xs i d (omega arith)

    behind : (xs : List Member) (d : Member) → slice_index_or (xs ++ m ∷ []) (length xs) d ≡ m
    behind [] d = refl
    behind (x ∷ xs) d = behind xs d

    at : (i : ℕ) (d : Member) → i < length (members ++ m ∷ []) → (i < length members) ⊎ (length members ≤ i)
        → IsGiven gifts i (slice_index_or (members ++ m ∷ []) i d)
    at i d lt (inl old) = subst (λ (v : Member). IsGiven gifts i v) (sym (before members i d old)) (all.each i d old)
    at i d lt (inr last) =
        let same : length members ≡ i = omega (arith, lt, length-append members (m ∷ [])) in
        subst (λ (k : ℕ). IsGiven gifts k (slice_index_or (members ++ m ∷ []) k d)) same
        (subst (λ (v : Member). IsGiven gifts (length members) v) (sym (behind members d)) new)

pub fresh_more : (plans : List RingPlan) (rings : List Ring) (k : ℕ) (ring : Ring) → length rings ≡ k → AreFresh plans rings
    → ((p : RingPlan) → IsFresh (slice_index_or plans k p) ring) → AreFresh plans (rings ++ ring ∷ [])
fresh_more plans rings k ring at all new = record { each = λ r p x lt. one r p x lt (below_or_not r (length rings)) }
  where
    before : (xs : List Ring) (r : ℕ) (d : Ring) → r < length xs → slice_index_or (xs ++ ring ∷ []) r d ≡ slice_index_or xs r d
    before [] r d lt = absurd (omega arith)
    before (x ∷ xs) zero d lt = refl
    before (x ∷ xs) (suc r) d lt = before xs r d (omega arith)

    behind : (xs : List Ring) (d : Ring) → slice_index_or (xs ++ ring ∷ []) (length xs) d ≡ ring
    behind [] d = refl
    behind (x ∷ xs) d = behind xs d

    one : (r : ℕ) (p : RingPlan) (x : Ring) → r < length (rings ++ ring ∷ []) → (r < length rings) ⊎ (length rings ≤ r)
        → IsFresh (slice_index_or plans r p) (slice_index_or (rings ++ ring ∷ []) r x)
    one r p x lt (inl old) = subst (λ (v : Ring). IsFresh (slice_index_or plans r p) v) (sym (before rings r x old)) (all.each r p x old)
    one r p x lt (inr last) =
        let same : length rings ≡ r = omega (arith, lt, length-append rings (ring ∷ [])) in
        subst (λ (v : ℕ). IsFresh (slice_index_or plans v p) (slice_index_or (rings ++ ring ∷ []) v x)) same
        (subst (λ (v : Ring). IsFresh (slice_index_or plans (length rings) p) v) (sym (behind rings x))
        (subst (λ (v : ℕ). IsFresh (slice_index_or plans v p) ring) (sym at) (new p)))

abbrev one_if : Bool → ℕ
one_if t = if t then 1 else 0

abbrev n_if : Bool → ℕ → ℕ
n_if t n = if t then n else 0

pub occurrences-filter : (b : ℕ) (p : ℕ → Bool) (xs : List ℕ) → occurrences b (filter p xs) ≡ n_if (p b) (occurrences b xs)
occurrences-filter b p [] = zero_both (p b)
  where
    zero_both : (t : Bool) → 0 ≡ n_if t 0
    zero_both true = refl
    zero_both false = refl
occurrences-filter b p (x ∷ xs) = step (p x) refl (x == b) refl (occurrences-filter b p xs)
  where
    more : (ys : List ℕ) → occurrences b (x ∷ ys) ≡ one_if (x == b) + occurrences b ys
    more ys = sum_by-cons (λ n. if n == b then 1 else 0) x ys

    apart : (x == b) ≡ false → occurrences b (x ∷ xs) ≡ occurrences b xs
    apart e = let z : one_if (x == b) ≡ 0 = ap one_if e in omega (arith, more xs)

    step : (t : Bool) → p x ≡ t → (u : Bool) → (x == b) ≡ u → occurrences b (filter p xs) ≡ n_if (p b) (occurrences b xs)
        → occurrences b (cond t (x ∷ filter p xs) (filter p xs)) ≡ n_if (p b) (occurrences b (x ∷ xs))
    step true px true e ih =
        let same : x ≡ b = grind (arith, nat_tests) in
        let pb : p b ≡ true = ap p (sym same) ∙ px in
        let rest : occurrences b (filter p xs) ≡ occurrences b xs = ih ∙ ap (λ v. n_if v (occurrences b xs)) pb in
        let whole : occurrences b (x ∷ filter p xs) ≡ occurrences b (x ∷ xs) = omega (arith, more (filter p xs), more xs) in
        whole ∙ sym (ap (λ v. n_if v (occurrences b (x ∷ xs))) pb)
    step true px false e ih =
        let z : one_if (x == b) ≡ 0 = ap one_if e in
        let whole : occurrences b (x ∷ filter p xs) ≡ occurrences b (filter p xs) = omega (arith, more (filter p xs)) in
        whole ∙ (ih ∙ ap (n_if (p b)) (sym (apart e)))
    step false px true e ih =
        let same : x ≡ b = grind (arith, nat_tests) in
        let pb : p b ≡ false = ap p (sym same) ∙ px in
        ih ∙ (ap (λ v. n_if v (occurrences b xs)) pb ∙ sym (ap (λ v. n_if v (occurrences b (x ∷ xs))) pb))
    step false px false e ih = ih ∙ ap (n_if (p b)) (sym (apart e))

out_of_range : (c a n : ℕ) → (c < a) ⊎ (a + n ≤ c) → occurrences c (range_with_len a n) ≡ 0
out_of_range c a zero h = refl
out_of_range c a (suc n) (inl lt) =
    let e : c ≢ a = (λ h. absurd (omega (arith, lt, ap (λ (v : ℕ). v) h))) in
    occurs_apart c a (range_with_len (a + 1) n) e ∙ out_of_range c (a + 1) n (inl (omega (arith, lt)))
out_of_range c a (suc n) (inr le) =
    let e : c ≢ a = (λ h. absurd (omega (arith, le, ap (λ (v : ℕ). v) h))) in
    occurs_apart c a (range_with_len (a + 1) n) e ∙ out_of_range c (a + 1) n (inr (omega (arith, le)))

in_range : (b a n : ℕ) → a ≤ b → b < a + n → occurrences b (range_with_len a n) ≡ 1
in_range b a zero le lt = absurd (omega (arith, le, lt))
in_range b a (suc n) le lt = elim (same_or_not b a) [
  | inl same ↦
      subst (λ (v : ℕ). occurrences v (a ∷ range_with_len (a + 1) n) ≡ 1) (sym same)
      (let none = out_of_range a (a + 1) n (inl (omega arith)) in omega (arith, occurs_here a (range_with_len (a + 1) n)))
  | inr apart ↦
      occurs_apart b a (range_with_len (a + 1) n) apart ∙ in_range b (a + 1) n (above apart) (omega (arith, lt))
]
  where
    above : b ≢ a → a + 1 ≤ b
    above apart = grind (arith, apart)

-- the entry of a buffer is with the actor it was given to
entry_given : (gifts : List ℕ) (b : ℕ) → b < length gifts → entry (map (λ g. Held g) gifts) b ≡ Held (slice_index gifts b)
entry_given [] b lt = absurd (omega (arith, lt))
entry_given (g ∷ gifts) zero lt = refl
entry_given (g ∷ gifts) (suc b) lt = entry_given gifts b (omega (arith, lt))

entry_past : (gifts : List ℕ) (b : ℕ) → length gifts ≤ b → entry (map (λ g. Held g) gifts) b ≡ Nowhere
entry_past [] b le = refl
entry_past (g ∷ gifts) zero le = absurd (omega (arith, le))
entry_past (g ∷ gifts) (suc b) le = entry_past gifts b (omega (arith, le))

given_out : (gifts : List ℕ) (i b : ℕ) → length gifts ≤ b → occurrences b (buffers_given gifts i) ≡ 0
given_out gifts i b le =
    occurrences-filter b (λ c. slice_index gifts c == i) (range_with_len 0 (length gifts))
    ∙ (ap (n_if (slice_index gifts b == i)) (out_of_range b 0 (length gifts) (inr (omega (arith, le)))) ∙ zero_both (slice_index gifts b == i))
  where
    zero_both : (t : Bool) → n_if t 0 ≡ 0
    zero_both true = refl
    zero_both false = refl

given_is : (gifts : List ℕ) (i b : ℕ) → occurrences b (buffers_given gifts i) ≡ times_with i (entry (map (λ g. Held g) gifts) b)
given_is gifts i b = elim (below_or_not b (length gifts)) [
  | inl lt ↦
      occurrences-filter b (λ c. slice_index gifts c == i) (range_with_len 0 (length gifts))
      ∙ (ap (n_if (slice_index gifts b == i)) (in_range b 0 (length gifts) (omega arith) (omega (arith, lt)))
      ∙ sym (ap (times_with i) (entry_given gifts b lt)))
  | inr le ↦ given_out gifts i b le ∙ sym (ap (times_with i) (entry_past gifts b le))
]

-- what holds for held entries and for none holds for all
of_given : (P : Place → Type 0) → ((g : ℕ) → P (Held g)) → P Nowhere → (gifts : List ℕ) (b : ℕ) → P (entry (map (λ g. Held g) gifts) b)
of_given P held none gifts b = elim (below_or_not b (length gifts)) [
  | inl lt ↦ subst (λ (v : Place). P v) (sym (entry_given gifts b lt)) (held (slice_index gifts b))
  | inr le ↦ subst (λ (v : Place). P v) (sym (entry_past gifts b le)) none
]

-- the lists right after the opening are those of a history without events
pub opening_agrees : (plans : List RingPlan) (actors : ℕ) (gifts : List ℕ) (rings : List Ring) (members : List Member)
    → length rings ≡ length plans → AreFresh plans rings → length members ≡ actors → AreGiven gifts members
    → ((b : ℕ) → b < length gifts → slice_index gifts b < actors)
    → ListsAgree plans (length gifts) rings (map (λ g. Held g) gifts) members (opening actors gifts)
unfolding holds moved buffers_had
opening_agrees plans actors gifts rings members some_rings fresh some_members given named = record {
  spans = record {
    member_count = some_members ∙ sym (length-map-range_with_len (λ i. given_actor i) 0 actors);
    ring_count = some_rings;
    each_member = λ i d e lt.
        let below : i < actors = omega (arith, lt, length-map-range_with_len (λ k. given_actor k) 0 actors) in
        let m : Member = slice_index_or members i e in
        let mine : IsGiven gifts i m = given.each i e (omega (arith, below, some_members)) in
        subst (λ (v : Actor). MemberAgrees v m) (sym (actor_at i d below)) record { span = mine.span; observed = mine.observed };
    each_ring = λ r plan ring hp hr.
        let now : IsFresh plan ring = fresh_at r plan ring hp hr in
        record {
          put = words plan.put r Put ring.put now.put_head now.put_tail;
          take = words plan.take r Take ring.take now.take_head now.take_tail;
          queue = now.queue ∙ sym (queue_of_opening actors gifts r);
          capacity = now.capacity;
        };
  };
  entries = record {
    sized = length-map gifts (λ g. Held g);
    each_hand = λ i a m ha hm.
        let below : i < actors = omega (arith, slice_get_within members i m hm, some_members) in
        let is : given_actor i ≡ a = sym (actor_at i a below) ∙ get_or_from_slice_get (opening actors gifts) i a a ha in
        let mine : IsGiven gifts i m =
        subst (λ (v : Member). IsGiven gifts i v) (get_or_from_slice_get members i m m hm) (given.each i m (slice_get_within members i m hm)) in
        subst (λ (v : Actor). HandAgrees (length gifts) (map (λ g. Held g) gifts) i v m) is record {
          number = mine.number;
          count = mine.count ∙ sym (counted i);
          held = λ b. held i b;
          cached = λ b. of_given (λ x. false ≡ is_cached_at i x) (λ g. refl) refl gifts b;
        };
    queued = λ r ring hr b.
        let plan = element plans r (omega (arith, slice_get_within rings r ring hr, some_rings)) in
        let now : IsFresh plan.0 ring = fresh_at r plan.0 ring plan.1 hr in
        ap (positions_from b ring.take.tail) now.queue ∙ of_given (λ x. [] ≡ positions_on r x) (λ g. refl) refl gifts b;
    named = λ b. elim (below_or_not b (length gifts)) [
      | inl lt ↦
          subst (λ (v : Place). IsNamed (length rings) (length members) v) (sym (entry_given gifts b lt))
          (subst (λ (v : ℕ). slice_index gifts b < v) (sym some_members) (named b lt))
      | inr le ↦ subst (λ (v : Place). IsNamed (length rings) (length members) v) (sym (entry_past gifts b le)) tt
    ];
  };
}
  where
    given_actor : ℕ → Actor
    given_actor i = record { party = newcomer (buffers_given gifts i); observed = None; cached = [] }

    actor_at : (i : ℕ) (d : Actor) → i < actors → slice_index_or (opening actors gifts) i d ≡ given_actor i
    actor_at i d below = get_or-map-range_with_len (λ k. given_actor k) 0 actors i i d below (omega arith)

    none_moved : (n : ℕ) → n + 0 - 0 ≡ n
    none_moved n = omega arith

    held : (i b : ℕ) → holds tags b (given_actor i).party ≡ times_with i (entry (map (λ g. Held g) gifts) b)
    held i b = none_moved (occurrences b (buffers_given gifts i)) ∙ given_is gifts i b

    counted : (i : ℕ) → buffers_of_actor (length gifts) (given_actor i) ≡ length (buffers_given gifts i)
    counted i =
        ap (λ (f : ℕ → ℕ). sum_by f (range_with_len 0 (length gifts))) (λ j b. none_moved (occurrences b (buffers_given gifts i)) j)
        ∙ count_all (length gifts) (buffers_given gifts i) (λ b le. given_out gifts i b le)

    fresh_at : (r : ℕ) (plan : RingPlan) (ring : Ring) → slice_get plans r ≡ Some plan → slice_get rings r ≡ Some ring → IsFresh plan ring
    fresh_at r plan ring hp hr =
        subst (λ (v : RingPlan). IsFresh v ring) (get_or_from_slice_get plans r plan plan hp)
        (subst (λ (v : Ring). IsFresh (slice_index_or plans r plan) v) (get_or_from_slice_get rings r ring ring hr)
        (fresh.each r plan ring (slice_get_within rings r ring hr)))

    words : (mode : Mode) (r : ℕ) (side : Side) (w : Words) → w.head ≡ 0 → w.tail ≡ 0 → WordsAgree mode (side_of (parties_of (opening actors gifts)) r side) w
    words mode r side w head tail =
        subst (λ (v : RingSide Item). WordsAgree mode v w) (sym (side_of_opening actors gifts r side))
        record { tail = tail; multi = λ _. head; hts = λ _. head }

pub plan_right : (plan : WorldPlan) → IsPlan plan.rings.items plan.actors plan.gifts.items → IsRight (opened_by plan)
plan_right plan is = record {
  plan = is;
  run = tt;
  sound = from_opening plan.rings.items plan.actors plan.gifts.items [] is.rings is.to_actors tt;
  one_span = tt;
  room = tt;
}
