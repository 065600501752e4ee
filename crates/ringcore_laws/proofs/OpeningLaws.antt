-- The opening is sound, if each gift names an actor
use Rattle.std.proofs.Common.{ℕ, zero, suc, ◌+◌, ◌<◌, ◌≤◌, ◌≢◌, ◌≡◌, ◌⊎◌, inl, inr, List, [], ◌∷◌, map, length, drop, refl, ap, sym, subst, ◌∙◌, arith, true}
use Rattle.std.proofs.Common.{false, Bool, cond}
use Rattle.std.specs.Prelude.{slice_index, slice_index_or, Some, None, ◌==◌, if◌then◌else◌}
use Rattle.std.specs.List.{sum_by, filter, range_with_len}
use Rattle.std.proofs.lemmas.List.Sums.{sum_by-cons}
use Rattle.std.proofs.lemmas.Bool.Decides.{nat_tests}
use Rattle.geom.specs.declared.plan.Side.{Side}
use Rattle.geom.specs.declared.plan.Side.TheVariants.{Put, Take}
use Rattle.geom.specs.declared.plan.RingPlan.{RingPlan}
use Rattle.geom.specs.Extent.{Extent}
use Rattle.geom.specs.Fit.{AllFitAny}
use Rattle.geom.proofs.Words.{range_some}
use Rattle.ringcore_laws.specs.declared.contents.Item.{Item}
use Rattle.ringcore_laws.specs.declared.party.Party.{Party}
use Rattle.ringcore_laws.specs.Party.{newcomer}
use Rattle.ringcore_laws.specs.RingSide.{RingSide, side_of, listed, party_items, party_count, party_end}
use Rattle.ringcore_laws.specs.Sound.{SoundRing, claims, holds, moved, place_count, occurrences, occurrences_in, in_ring, queue}
use Rattle.ringcore_laws.specs.HeadTailRule.{RuledSide}
use Rattle.geom.specs.Plan.{mode_of}
use Rattle.ringcore_laws.specs.History.{Actor, Event, IsRun, StaysSound, tags, parties_of, opening, buffers_given}
use Rattle.ringcore_laws.proofs.RingLaws.{below_or_not}
use Rattle.ringcore_laws.proofs.Laws.{same_side_of, range_same, sum_range_more}
use Rattle.ringcore_laws.proofs.HistoryLaws.{history_sound}
use Rattle.ringcore_laws.specs.Invariant.{Invariant}

abbrev fresh : List ℕ → Actor
fresh given = record { party = newcomer given; observed = None; cached = [] }

-- a side on which nothing was reserved
abbrev pub empty : {I : Type 0} → RingSide I
empty = record { items_at = λ p. []; len = 0; openers = λ p. 0; open_count = 0; reach = 0 }

-- actors that have only been given buffers leave every side empty
side_of_fresh : (gs : List (List ℕ)) (r : ℕ) (side : Side) → side_of (parties_of (map fresh gs)) r side ≡ empty
unfolding side_of party_items party_count party_end
side_of_fresh [] r side = refl
side_of_fresh (g ∷ gs) r side =
    let h = side_of_fresh gs r side in
    same_side_of (side_of (parties_of (map fresh (g ∷ gs))) r side) empty
    (λ p. ap (λ (v : RingSide Item). v.items_at p) h)
    (sum_by-cons (party_count r side) (newcomer g) (parties_of (map fresh gs)) ∙ (zero_plus _ ∙ ap (λ (v : RingSide Item). v.len) h))
    (λ p. sum_by-cons _ (newcomer g) (parties_of (map fresh gs)) ∙ (zero_plus _ ∙ ap (λ (v : RingSide Item). v.openers p) h))
    (sum_by-cons _ (newcomer g) (parties_of (map fresh gs)) ∙ (zero_plus _ ∙ ap (λ (v : RingSide Item). v.open_count) h))
    (let e = ap (λ (v : RingSide Item). v.reach) h in omega arith)
  where
    zero_plus : (n : ℕ) → 0 + n ≡ n
    zero_plus n = omega arith

pub ring_fresh : {I : Type 0} (e : Extent) → SoundRing {I = I} e empty empty
unfolding claims listed
ring_fresh {I} e = record {
  published = record { one = λ p lt. absurd (omega arith); none = λ p le. refl };
  dequeued = record { one = λ p lt. absurd (omega arith); none = λ p le. refl };
  fifo = ([], refl);
  within_capacity = omega arith;
  claimed_once = λ p. unclaimed p;
  slots_apart = λ p q some_p some_q same. absurd (omega (arith, none_claimed p));
  takes_are_queued = λ p h. absurd (omega arith);
  puts_unsettled = λ p h. refl;
  takes_unsettled = λ p h. refl;
}
  where
    none_claimed : (p : ℕ) → claims {I = I} empty empty p ≡ 0
    none_claimed p = grind (arith, nat_tests)

    unclaimed : (p : ℕ) → claims {I = I} empty empty p ≤ 1
    unclaimed p = omega (arith, none_claimed p)

held_fresh : (gs : List (List ℕ)) (b : ℕ) → sum_by (holds tags b) (parties_of (map fresh gs)) ≡ sum_by (occurrences b) gs
unfolding holds moved
held_fresh [] b = refl
held_fresh (g ∷ gs) b = omega (arith, sum_by-cons (holds tags b) (newcomer g) (parties_of (map fresh gs)), sum_by-cons (occurrences b) g gs, held_fresh gs b)

fresh_at : (gs : List (List ℕ)) (k : ℕ) (d : Actor) → k < length (map fresh gs) → (slice_index_or (map fresh gs) k d).observed ≡ None
fresh_at [] k d lt = absurd (omega arith)
fresh_at (g ∷ gs) zero d lt = refl
fresh_at (g ∷ gs) (suc k) d lt = fresh_at gs k d (omega arith)

party_fresh : (gs : List (List ℕ)) (k : ℕ) (d : Party Item) → k < length (parties_of (map fresh gs))
    → ((slice_index_or (parties_of (map fresh gs)) k d).span ≡ None) × ((b : ℕ) → moved tags Put b (slice_index_or (parties_of (map fresh gs)) k d) ≡ 0)
unfolding moved
party_fresh [] k d lt = absurd (omega arith)
party_fresh (g ∷ gs) zero d lt = (refl, λ b. refl)
party_fresh (g ∷ gs) (suc k) d lt = party_fresh gs k d (omega arith)

abbrev one_if : Bool → ℕ
one_if t = if t then 1 else 0

-- how often a number occurs in a list with one more in front
pub occurrences-cons : (b x : ℕ) (xs : List ℕ) → ((x ≡ b) × (occurrences b (x ∷ xs) ≡ 1 + occurrences b xs)) ⊎
    ((x ≢ b) × (occurrences b (x ∷ xs) ≡ occurrences b xs))
occurrences-cons b x xs = by_test (x == b) refl
  where
    by_test : (t : Bool) → (x == b) ≡ t → ((x ≡ b) × (occurrences b (x ∷ xs) ≡ 1 + occurrences b xs)) ⊎ ((x ≢ b) × (occurrences b (x ∷ xs) ≡ occurrences b xs))
    by_test true e =
        let one : one_if (x == b) ≡ 1 = ap one_if e in
        inl (grind (arith, nat_tests), omega (arith, sum_by-cons (λ n. if n == b then 1 else 0) x xs, one))
    by_test false e =
        let none : one_if (x == b) ≡ 0 = ap one_if e in
        inr (grind (arith, nat_tests), omega (arith, sum_by-cons (λ n. if n == b then 1 else 0) x xs, none))

-- how often a buffer is given: never outside the range, otherwise where its gift names it
not_given : (b : ℕ) (p : ℕ → Bool) (a n : ℕ) → (b < a) ⊎ (a + n ≤ b) → occurrences b (filter p (range_with_len a n)) ≡ 0
not_given b p a zero out = refl
not_given b p a (suc n) out =
    by_test (p a) (not_given b p (a + 1) n (elim out [ inl x ↦ inl (omega arith) | inr y ↦ inr (omega arith) ]))
    (elim out [ inl x ↦ differ a b (inl x) | inr y ↦ differ a b (inr (omega arith)) ])
  where
    differ : (x y : ℕ) → (y < x) ⊎ (x < y) → x ≢ y
    differ x y h e = elim h [ inl u ↦ omega arith | inr v ↦ omega arith ]

    by_test : (t : Bool) → occurrences b (filter p (range_with_len (a + 1) n)) ≡ 0 → a ≢ b
        → occurrences b (cond t (a ∷ filter p (range_with_len (a + 1) n)) (filter p (range_with_len (a + 1) n))) ≡ 0
    by_test true rest apart = elim (occurrences-cons b a (filter p (range_with_len (a + 1) n))) [ inl same ↦ absurd (apart same.0) | inr h ↦ h.1 ∙ rest ]
    by_test false rest apart = rest

given_once : (b : ℕ) (p : ℕ → Bool) (a n : ℕ) → a ≤ b → b < a + n → occurrences b (filter p (range_with_len a n)) ≡ (if p b then 1 else 0)
given_once b p a zero le lt = absurd (omega arith)
given_once b p a (suc n) le lt = elim (below_or_not a b) [
  | inl more ↦ later (p a) (given_once b p (a + 1) n (omega arith) (omega arith)) (omega arith)
  | inr here ↦ let same : a ≡ b =
      omega arith in subst (λ v. occurrences b (filter p (range_with_len a (suc n))) ≡ (if p v then 1 else 0)) same
      (now (p a) same (not_given b p (a + 1) n (inl (omega arith))))
]
  where
    later : (t : Bool) → occurrences b (filter p (range_with_len (a + 1) n)) ≡ (if p b then 1 else 0) → a ≢ b
        → occurrences b (cond t (a ∷ filter p (range_with_len (a + 1) n)) (filter p (range_with_len (a + 1) n))) ≡ (if p b then 1 else 0)
    later true rest apart = elim (occurrences-cons b a (filter p (range_with_len (a + 1) n))) [ inl same ↦ absurd (apart same.0) | inr h ↦ h.1 ∙ rest ]
    later false rest apart = rest

    now : (t : Bool) → a ≡ b → occurrences b (filter p (range_with_len (a + 1) n)) ≡ 0
        → occurrences b (cond t (a ∷ filter p (range_with_len (a + 1) n)) (filter p (range_with_len (a + 1) n))) ≡ (if t then 1 else 0)
    now true same rest = elim (occurrences-cons b a (filter p (range_with_len (a + 1) n))) [ inl h ↦ omega (arith, h.1) | inr h ↦ absurd (h.0 same) ]
    now false same rest = rest

gifts_list : ℕ → List ℕ → List (List ℕ)
gifts_list n gifts = map (buffers_given gifts) (range_with_len 0 n)

opening_fresh : (n a : ℕ) (gifts : List ℕ) → map (λ i. fresh (buffers_given gifts i)) (range_with_len a n)
    ≡ map fresh (map (buffers_given gifts) (range_with_len a n))
opening_fresh zero a gifts = refl
opening_fresh (suc n) a gifts = ap (λ v. fresh (buffers_given gifts a) ∷ v) (opening_fresh n (a + 1) gifts)

pub side_of_opening : (n : ℕ) (gifts : List ℕ) (r : ℕ) (side : Side) → side_of (parties_of (opening n gifts)) r side ≡ empty
unfolding gifts_list
side_of_opening n gifts r side =
    ap (λ (v : List Actor). side_of (parties_of v) r side) (opening_fresh n 0 gifts) ∙ side_of_fresh (gifts_list n gifts) r side

pub put_of_opening : (n : ℕ) (gifts : List ℕ) (r : ℕ) → listed (side_of (parties_of (opening n gifts)) r Put) ≡ []
unfolding listed
put_of_opening n gifts r = ap (λ (v : RingSide Item). listed v) (side_of_opening n gifts r Put)

pub queue_of_opening : (n : ℕ) (gifts : List ℕ) (r : ℕ) → queue (parties_of (opening n gifts)) r ≡ []
unfolding listed
queue_of_opening n gifts r =
    ap (λ (v : RingSide Item). drop v.len (listed (side_of (parties_of (opening n gifts)) r Put))) (side_of_opening n gifts r Take)
    ∙ ap (λ (v : RingSide Item). listed v) (side_of_opening n gifts r Put)

sum_gifts : (n a : ℕ) (gifts : List ℕ) (b : ℕ) → sum_by (occurrences b) (map (buffers_given gifts) (range_with_len a n))
    ≡ sum_by (λ i. occurrences b (buffers_given gifts i)) (range_with_len a n)
sum_gifts zero a gifts b = refl
sum_gifts (suc n) a gifts b =
    omega (
      arith,
      sum_by-cons (occurrences b) (buffers_given gifts a) (map (buffers_given gifts) (range_with_len (a + 1) n)),
      sum_by-cons (λ i. occurrences b (buffers_given gifts i)) a (range_with_len (a + 1) n),
      sum_gifts n (a + 1) gifts b,
    )

pub sum_none : (a n : ℕ) → sum_by (λ (i : ℕ). 0) (range_with_len a n) ≡ 0
sum_none a zero = refl
sum_none a (suc n) = omega (arith, sum_by-cons (λ (i : ℕ). 0) a (range_with_len (a + 1) n), sum_none (a + 1) n)

-- each buffer is given once, and no other number is
gifts_once : (actors : ℕ) (gifts : List ℕ) (b : ℕ) → b < length gifts → slice_index gifts b < actors
    → sum_by (λ i. occurrences b (buffers_given gifts i)) (range_with_len 0 actors) ≡ 1
gifts_once actors gifts b lt named =
    let more =
    sum_range_more (λ i. 0) (λ i. occurrences b (buffers_given gifts i)) 0 actors (slice_index gifts b) 1 (λ i apart. others i apart) here (omega arith)
    (omega arith) in
    omega (arith, sum_none 0 actors)
  where
    given : (i : ℕ) → occurrences b (buffers_given gifts i) ≡ (if slice_index gifts b == i then 1 else 0)
    given i = given_once b (λ c. slice_index gifts c == i) 0 (length gifts) (omega arith) (omega arith)

    others : (i : ℕ) → i ≢ slice_index gifts b → occurrences b (buffers_given gifts i) ≡ 0
    others i apart = given i ∙ grind (arith, nat_tests)

    here : occurrences b (buffers_given gifts (slice_index gifts b)) ≡ 0 + 1
    here = given (slice_index gifts b) ∙ grind (arith, nat_tests)

gifts_never : (actors : ℕ) (gifts : List ℕ) (b : ℕ) → length gifts ≤ b → sum_by (λ i. occurrences b (buffers_given gifts i)) (range_with_len 0 actors) ≡ 0
gifts_never actors gifts b out =
    range_same (λ i. 0) (λ i. occurrences b (buffers_given gifts i)) 0 actors
    (λ i le lt. not_given b (λ c. slice_index gifts c == i) 0 (length gifts) (inr (omega arith))) ∙ sum_none 0 actors

none_listed : (c : ℕ) → occurrences_in tags c (listed empty) ≡ 0
unfolding listed
none_listed c = refl

-- the opening has everything that each event keeps
pub opening_kept : (plans : List RingPlan) (actors : ℕ) (gifts : List ℕ) → ((b : ℕ) → b < length gifts → slice_index gifts b < actors)
    → Invariant plans (length gifts) (opening actors gifts)
unfolding place_count
opening_kept plans actors gifts named = subst (λ (v : List Actor). Invariant plans (length gifts) v) (sym (opening_fresh actors 0 gifts)) record {
  sound = record {
    rings = λ r plan h.
        subst (λ (v : RingSide Item). SoundRing plan.geometry v (side_of parties r Take)) (sym (side_of_fresh gs r Put))
        (subst (λ (v : RingSide Item). SoundRing plan.geometry empty v) (sym (side_of_fresh gs r Take)) (ring_fresh plan.geometry));
    buffers = record {
      never_below_none = λ k d b lt. omega (arith, (party_fresh gs k d lt).1 b);
      one_place = λ b lt. all b ∙ gifts_once actors gifts b lt (named b lt);
      no_place = λ b out. all b ∙ gifts_never actors gifts b out;
    };
  };
  ruled = record {
    sides = λ r side plan h. subst (λ (v : RingSide Item). RuledSide plan.geometry (mode_of plan side) v) (sym (side_of_fresh gs r side))
        record { behind = omega arith; last = omega arith; small = λ _. range_some plan.geometry; covered = λ multi p le lt. absurd (omega arith) };
    room = λ r plan h. omega (arith, ap (λ (v : RingSide Item). v.reach) (side_of_fresh gs r Put));
    spans = λ k d s lt busy. absurd (let h : None ≡ Some s = sym (party_fresh gs k d lt).0 ∙ busy in cc);
  };
  observations = λ k d s lt seen. absurd (let h : None ≡ Some s = sym (fresh_at gs k d lt) ∙ seen in cc);
}
  where
    gs : List (List ℕ)
    gs = map (buffers_given gifts) (range_with_len 0 actors)

    parties : List (Party Item)
    parties = parties_of (map fresh gs)

    no_queue : (b r : ℕ) → in_ring tags b parties r ≡ 0
    no_queue b r =
        ap (λ (v : RingSide Item). occurrences_in tags b (drop v.len (listed (side_of parties r Put)))) (side_of_fresh gs r Take)
        ∙ ap (λ (v : RingSide Item). occurrences_in tags b (listed v)) (side_of_fresh gs r Put) ∙ none_listed b

    all : (b : ℕ) → place_count tags (length plans) b parties ≡ sum_by (λ i. occurrences b (buffers_given gifts i)) (range_with_len 0 actors)
    all b =
        let rings : sum_by (in_ring tags b parties) (range_with_len 0 (length plans)) ≡ 0 =
        range_same (λ r. 0) (in_ring tags b parties) 0 (length plans) (λ r le lt. no_queue b r) ∙ sum_none 0 (length plans) in
        omega (arith, held_fresh gs b, sum_gifts actors 0 gifts b)

-- every history from an opening on
pub from_opening : (plans : List RingPlan) (actors : ℕ) (gifts : List ℕ) (events : List Event) → AllFitAny plans (length gifts)
    → ((b : ℕ) → b < length gifts → slice_index gifts b < actors)
    → IsRun plans (length gifts) (opening actors gifts) events → StaysSound plans (length gifts) (opening actors gifts) events
from_opening plans actors gifts events fits named right =
    history_sound plans (length gifts) (opening actors gifts) events fits (opening_kept plans actors gifts named) right
