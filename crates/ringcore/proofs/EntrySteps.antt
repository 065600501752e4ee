-- What is written to the entries of numbers, and the marks that are removed again
use Rattle.std.proofs.Common.{ℕ, zero, suc, ◌+◌, ◌<◌, ◌≤◌, ◌≢◌, ◌≡◌, ◌⊎◌, inl, inr, List, [], ◌∷◌, ◌++◌, length, take, drop, refl, ap, sym, subst, ◌∙◌, arith}
use Rattle.std.proofs.Common.{true, false, Bool}
use Rattle.std.specs.Prelude.{slice_set, slice_index_or, Some, None, ◌==◌, ◌&&◌, if◌then◌else◌}
use Rattle.std.specs.List.{flat_map, list_all}
use Rattle.std.proofs.lemmas.List.{set_comm, set-set, set-get_or, get_or-set_same, get_or-set_other, get_or_past, length-set, take_more, flat_map_more}
use Rattle.std.proofs.lemmas.List.{length-take-le, take-append-drop}
use Rattle.std.proofs.lemmas.Grind.{flat_map-append}
use Rattle.std.proofs.lemmas.List.Sums.{sum_by-cons}
use Rattle.std.proofs.lemmas.Bool.Decides.{nat_tests}
use Rattle.ringcore_laws.specs.declared.contents.Item.{Item}
use Rattle.ringcore_laws.specs.declared.protocol.Place.{Place}
use Rattle.ringcore_laws.specs.declared.protocol.Place.TheVariants.{AtRing, Held, Cached, Nowhere}
use Rattle.ringcore_laws.specs.Sound.{occurrences}
use Rattle.ringcore_laws.specs.History.{tags}
use Rattle.ringcore_laws.proofs.HistoryLaws.{and_true, passes}
use Rattle.ringcore_laws.proofs.Laws.{same_or_not, same_plan}
use Rattle.ringcore_laws.proofs.RingLaws.{below_or_not}
use Rattle.ringcore.specs.Entries.{are_held_apart, claimed, entry, IsClaimed, is_cached_at, is_held_at, with_each, with_items_at}

-- 1. writes

pub with_each-append : (places : List Place) (xs ys : List ℕ) (x : Place) → with_each places (xs ++ ys) x ≡ with_each (with_each places xs x) ys x
with_each-append places [] ys x = refl
with_each-append places (b ∷ xs) ys x = with_each-append (slice_set places b x) xs ys x

-- one more number, and the numbers of one more item
pub with_each-more : (places : List Place) (xs : List ℕ) (b : ℕ) (x : Place) → with_each places (xs ++ b ∷ []) x ≡ slice_set (with_each places xs x) b x
with_each-more places xs b x = with_each-append places xs (b ∷ []) x

pub with_items_at-more : (places : List Place) (r p q : ℕ) (xs : List Item) (x : Item) → p + length xs ≡ q
    → with_items_at places r p (xs ++ x ∷ []) ≡ with_each (with_items_at places r p xs) (tags x) (AtRing r q)
with_items_at-more places r p q [] x at = ap (λ v. with_each places (tags x) (AtRing r v)) (let h : p ≡ q = omega (arith, at) in h)
with_items_at-more places r p q (y ∷ xs) x at = with_items_at-more (with_each places (tags y) (AtRing r p)) r (p + 1) q xs x (omega (arith, at))

pub length-with_each : (places : List Place) (xs : List ℕ) (x : Place) → length (with_each places xs x) ≡ length places
length-with_each places [] x = refl
length-with_each places (b ∷ xs) x = length-with_each (slice_set places b x) xs x ∙ length-set places b x

pub length-with_items_at : (places : List Place) (r p : ℕ) (xs : List Item) → length (with_items_at places r p xs) ≡ length places
length-with_items_at places r p [] = refl
length-with_items_at places r p (x ∷ xs) =
    length-with_items_at (with_each places (tags x) (AtRing r p)) r (p + 1) xs ∙ length-with_each places (tags x) (AtRing r p)

set_twice : (places : List Place) (b c : ℕ) (x : Place) → slice_set (slice_set places b x) c x ≡ slice_set (slice_set places c x) b x
set_twice places b c x = elim (same_or_not b c) [
  | inl same ↦ ap (λ v. slice_set (slice_set places v x) c x) same ∙ ap (λ v. slice_set (slice_set places c x) v x) (sym same)
  | inr apart ↦ set_comm places b c x x apart
]

-- the order of the writes doesn't matter
with_each-first : (places : List Place) (b : ℕ) (xs : List ℕ) (x : Place)
    → with_each (slice_set places b x) xs x ≡ slice_set (with_each places xs x) b x
with_each-first places b [] x = refl
with_each-first places b (c ∷ xs) x =
    ap (λ v. with_each v xs x) (set_twice places b c x) ∙ with_each-first (slice_set places c x) b xs x

-- the turns of the loops

pub each_turn : (places : List Place) (xs : List ℕ) (k d : ℕ) (x : Place) → k < length xs
    → slice_set (with_each places (take k xs) x) (slice_index_or xs k d) x ≡ with_each places (take (k + 1) xs) x
each_turn places xs k d x lt = sym (with_each-more places (take k xs) (slice_index_or xs k d) x) ∙ ap (λ v. with_each places v x) (sym (take_more xs k d lt))

pub item_more : (items : List Item) (k : ℕ) (item : Item) → k < length items → item ≡ slice_index_or items k item
    → take (k + 1) items ≡ take k items ++ item ∷ []
item_more items k item lt is = take_more items k item lt ∙ ap (λ (v : Item). take k items ++ v ∷ []) (sym is)

pub tags_more : (items : List Item) (k : ℕ) (item : Item) → k < length items → item ≡ slice_index_or items k item
    → flat_map tags (take (k + 1) items) ≡ flat_map tags (take k items) ++ tags item
tags_more items k item lt is = ap (flat_map tags) (item_more items k item lt is) ∙ sym (flat_map_more tags [] (take k items) item)

pub hold_turn : (places : List Place) (items : List Item) (k : ℕ) (item : Item) (x : Place) → k < length items → item ≡ slice_index_or items k item
    → with_each (with_each places (flat_map tags (take k items)) x) (tags item) x ≡ with_each places (flat_map tags (take (k + 1) items)) x
hold_turn places items k item x lt is =
    sym (with_each-append places (flat_map tags (take k items)) (tags item) x) ∙ ap (λ v. with_each places v x) (sym (tags_more items k item lt is))

pub queue_turn : (places : List Place) (r p q : ℕ) (items : List Item) (k : ℕ) (item : Item) → k < length items → item ≡ slice_index_or items k item
    → p + k ≡ q
    → with_each (with_items_at places r p (take k items)) (tags item) (AtRing r q) ≡ with_items_at places r p (take (k + 1) items)
queue_turn places r p q items k item lt is at =
    sym (with_items_at-more places r p q (take k items) item (omega (arith, at, length-take-le k items (omega (arith, lt)))))
    ∙ ap (λ v. with_items_at places r p v) (sym (item_more items k item lt is))

-- 2. marks

pub held_is : (i : ℕ) (x : Place) → is_held_at i x ≡ true → x ≡ Held i
held_is i (AtRing s p) h = absurd (let u : false ≡ true = h in cc)
held_is i (Held j) h = ap (λ v. Held v) (let e : j ≡ i = grind (arith, nat_tests) in e)
held_is i (Cached j) h = absurd (let u : false ≡ true = h in cc)
held_is i Nowhere h = absurd (let u : false ≡ true = h in cc)

pub cached_is : (i : ℕ) (x : Place) → is_cached_at i x ≡ true → x ≡ Cached i
cached_is i (AtRing s p) h = absurd (let u : false ≡ true = h in cc)
cached_is i (Held j) h = absurd (let u : false ≡ true = h in cc)
cached_is i (Cached j) h = ap (λ v. Cached v) (let e : j ≡ i = grind (arith, nat_tests) in e)
cached_is i Nowhere h = absurd (let u : false ≡ true = h in cc)

-- the entry exists, if it has content
pub within : (places : List Place) (b : ℕ) (x : Place) → entry places b ≡ x → x ≢ Nowhere → b < length places
within places b x h some = elim (below_or_not b (length places)) [
  | inl lt ↦ lt
  | inr out ↦ absurd (some (sym h ∙ get_or_past places b Nowhere out))
]

there : (places : List Place) (b i : ℕ) → entry places b ≡ Held i → b < length places
there places b i h = within places b (Held i) h (λ none. absurd (let u : Held i ≡ Nowhere = none in cc))

marked_back : (places : List Place) (b i : ℕ) → is_held_at i (entry places b) ≡ true
    → slice_set (slice_set places b (Cached i)) b (Held i) ≡ places
marked_back places b i h =
    set-set places b (Cached i) (Held i) ∙ (ap (slice_set places b) (sym (held_is i (entry places b) h)) ∙ set-get_or places b Nowhere)

-- the test passes or stops at the first number
claims : (i : ℕ) (places : List Place) (b : ℕ) (xs : List ℕ) → is_held_at i (entry places b) ≡ true
    → claimed i places (b ∷ xs) ≡ claimed i (slice_set places b (Cached i)) xs
claims i places b xs h = ap (λ v. if v then claimed i (slice_set places b (Cached i)) xs else None) h

stops : (i : ℕ) (places : List Place) (b : ℕ) (xs : List ℕ) → is_held_at i (entry places b) ≡ false → claimed i places (b ∷ xs) ≡ None
stops i places b xs h = ap (λ v. if v then claimed i (slice_set places b (Cached i)) xs else None) h

never_some : {X : Type 0} {x : X} → None ≡ Some x → ⊥
never_some h = absurd (let u = h in cc)

claimed_first : (i : ℕ) (places marked : List Place) (b : ℕ) (xs : List ℕ) → claimed i places (b ∷ xs) ≡ Some marked
    → (is_held_at i (entry places b) ≡ true) × (claimed i (slice_set places b (Cached i)) xs ≡ Some marked)
claimed_first i places marked b xs h = by_test (is_held_at i (entry places b)) refl
  where
    by_test : (t : Bool) → is_held_at i (entry places b) ≡ t
        → (is_held_at i (entry places b) ≡ true) × (claimed i (slice_set places b (Cached i)) xs ≡ Some marked)
    by_test true e = (e, sym (claims i places b xs e) ∙ h)
    by_test false e = absurd (let u : None ≡ Some marked = sym (stops i places b xs e) ∙ h in cc)

pub claimed_on : (i : ℕ) (places marked : List Place) (xs ys : List ℕ) → claimed i places xs ≡ Some marked
    → claimed i places (xs ++ ys) ≡ claimed i marked ys
claimed_on i places marked [] ys h = ap (λ v. claimed i v ys) (same_plan h)
claimed_on i places marked (b ∷ xs) ys h =
    let first = claimed_first i places marked b xs h in
    claims i places b (xs ++ ys) first.0 ∙ claimed_on i (slice_set places b (Cached i)) marked xs ys first.1

pub claimed_stops : (i : ℕ) (places : List Place) (xs ys : List ℕ) → claimed i places xs ≡ None → claimed i places (xs ++ ys) ≡ None
claimed_stops i places [] ys h = absurd (let u : Some places ≡ None = h in cc)
claimed_stops i places (b ∷ xs) ys h =
    by_test (is_held_at i (entry places b)) refl (λ e. claimed_stops i (slice_set places b (Cached i)) xs ys (sym (claims i places b xs e) ∙ h))
  where
    by_test : (t : Bool) → is_held_at i (entry places b) ≡ t
        → (is_held_at i (entry places b) ≡ true → claimed i (slice_set places b (Cached i)) (xs ++ ys) ≡ None) → claimed i places (b ∷ (xs ++ ys)) ≡ None
    by_test true e rest = claims i places b (xs ++ ys) e ∙ rest e
    by_test false e rest = stops i places b (xs ++ ys) e

-- the marks removed again
pub unclaimed : (i : ℕ) (places marked : List Place) (xs : List ℕ) → claimed i places xs ≡ Some marked → with_each marked xs (Held i) ≡ places
unclaimed i places marked [] h = sym (same_plan h)
unclaimed i places marked (b ∷ xs) h =
    let first = claimed_first i places marked b xs h in
    with_each-first marked b xs (Held i)
    ∙ (ap (λ v. slice_set v b (Held i)) (unclaimed i (slice_set places b (Cached i)) marked xs first.1) ∙ marked_back places b i first.0)

-- one more part of the numbers passes, or doesn't
pub claim_more : (i : ℕ) (places marked new : List Place) (xs more all : List ℕ) (t : Bool) → claimed i places xs ≡ Some marked
    → IsClaimed i marked new more t → t ≡ true → all ≡ xs ++ more → claimed i places all ≡ Some new
claim_more i places marked new xs more all true h next e is = ap (claimed i places) is ∙ (claimed_on i places marked xs more h ∙ next)
claim_more i places marked new xs more all false h next e is = absurd (let u : false ≡ true = e in cc)

pub claim_fails : (i : ℕ) (places marked new : List Place) (xs more rest all : List ℕ) (t : Bool) → claimed i places xs ≡ Some marked
    → IsClaimed i marked new more t → t ≡ false → all ≡ (xs ++ more) ++ rest
    → (claimed i places all ≡ None) × (with_each new xs (Held i) ≡ places)
claim_fails i places marked new xs more rest all true h next e is = absurd (let u : true ≡ false = e in cc)
claim_fails i places marked new xs more rest all false h next e is = (
  ap (claimed i places) is ∙ claimed_stops i places (xs ++ more) rest (claimed_on i places marked xs more h ∙ next.0),
  ap (λ v. with_each v xs (Held i)) next.1 ∙ unclaimed i places marked xs h,
)

pub numbers_split : (xs : List ℕ) (k d : ℕ) → k < length xs → xs ≡ (take k xs ++ slice_index_or xs k d ∷ []) ++ drop (k + 1) xs
numbers_split xs k d lt = sym (take-append-drop (k + 1) xs) ∙ ap (λ v. v ++ drop (k + 1) xs) (take_more xs k d lt)

pub items_split : (items : List Item) (k : ℕ) (item : Item) → k < length items → item ≡ slice_index_or items k item
    → flat_map tags items ≡ (flat_map tags (take k items) ++ tags item) ++ flat_map tags (drop (k + 1) items)
items_split items k item lt is =
    ap (flat_map tags) (sym (take-append-drop (k + 1) items))
    ∙ (flat_map-append tags (take (k + 1) items) (drop (k + 1) items)
    ∙ ap (λ v. v ++ flat_map tags (drop (k + 1) items)) (tags_more items k item lt is))

-- 3. the result of the test

-- entries with one mark more
marked_same : (places : List Place) (b i : ℕ) → b < length places → is_held_at i (entry (slice_set places b (Cached i)) b) ≡ false
marked_same places b i lt = ap (is_held_at i) (get_or-set_same places b (Cached i) Nowhere lt)

marked_other : (places : List Place) (b c i : ℕ) → c ≢ b → is_held_at i (entry (slice_set places b (Cached i)) c) ≡ is_held_at i (entry places c)
marked_other places b c i apart = ap (is_held_at i) (get_or-set_other places b c (Cached i) Nowhere apart)

abbrev one_if : Bool → ℕ
one_if t = if t then 1 else 0

pub occurs : (c b : ℕ) (xs : List ℕ) → occurrences c (b ∷ xs) ≡ one_if (b == c) + occurrences c xs
occurs c b xs = sum_by-cons (λ n. if n == c then 1 else 0) b xs

pub occurs_here : (b : ℕ) (xs : List ℕ) → occurrences b (b ∷ xs) ≡ 1 + occurrences b xs
occurs_here b xs =
    let e : (b == b) ≡ true = grind (arith, nat_tests) in let z : one_if (b == b) ≡ 1 = ap one_if e in omega (arith, occurs b b xs)

pub occurs_apart : (c b : ℕ) (xs : List ℕ) → c ≢ b → occurrences c (b ∷ xs) ≡ occurrences c xs
occurs_apart c b xs apart =
    let e : (b == c) ≡ false = grind (arith, nat_tests) in let z : one_if (b == c) ≡ 0 = ap one_if e in omega (arith, occurs c b xs)

pub claim_tells : (i : ℕ) (places marked : List Place) (xs : List ℕ) → claimed i places xs ≡ Some marked
    → (c : ℕ) → (0 < occurrences c xs → is_held_at i (entry places c) ≡ true) × (occurrences c xs ≤ 1)
claim_tells i places marked [] h c = ((λ some. absurd (omega arith)), omega arith)
claim_tells i places marked (b ∷ xs) h c =
    let first = claimed_first i places marked b xs h in
    let rest = claim_tells i (slice_set places b (Cached i)) marked xs first.1 c in
    elim (same_or_not c b) [
      | inl same ↦
          let lt = there places b i (held_is i (entry places b) first.0) in
          let none : (0 < occurrences c xs) → ⊥ = λ some.
          absurd (let u : false ≡ true = sym (marked_same places b i lt) ∙ subst
          (λ (v : ℕ). is_held_at i (entry (slice_set places b (Cached i)) v) ≡ true) same (rest.0 some) in cc) in
          ((λ some. subst (λ (v : ℕ). is_held_at i (entry places v) ≡ true) (sym same) first.0), once same (occurrences c xs) refl none)
      | inr apart ↦
          let less = occurs_apart c b xs apart in (
            (λ some. sym (marked_other places b c i apart) ∙ rest.0 (omega (arith, less, some))),
            omega (arith, less, rest.1),
          )
    ]
  where
    once : c ≡ b → (n : ℕ) → n ≡ occurrences c xs → ((0 < occurrences c xs) → ⊥) → occurrences c (b ∷ xs) ≤ 1
    once same zero is none =
        subst (λ (v : ℕ). occurrences v (b ∷ xs) ≤ 1) (sym same)
        (omega (arith, occurs_here b xs, subst (λ (v : ℕ). 0 ≡ occurrences v xs) same is))
    once same (suc n) is none = absurd (none (omega (arith, is)))

pub claim_never : (i : ℕ) (places : List Place) (xs : List ℕ) → claimed i places xs ≡ None
    → ((c : ℕ) → 0 < occurrences c xs → is_held_at i (entry places c) ≡ true) → ((c : ℕ) → occurrences c xs ≤ 1) → ⊥
claim_never i places [] h held once = absurd (let u : Some places ≡ None = h in cc)
claim_never i places (b ∷ xs) h held once =
    let mine = held b (omega (arith, occurs_here b xs)) in
    claim_never i (slice_set places b (Cached i)) xs (sym (claims i places b xs mine) ∙ h) (λ c some. rest c some (same_or_not c b))
    (λ c. omega (arith, occurs c b xs, once c))
  where
    rest : (c : ℕ) → 0 < occurrences c xs → (c ≡ b) ⊎ (c ≢ b) → is_held_at i (entry (slice_set places b (Cached i)) c) ≡ true
    rest c some (inl same) =
        absurd (omega (arith, occurs_here b xs, once b, subst (λ (v : ℕ). 0 < occurrences v xs) same some))
    rest c some (inr apart) = marked_other places b c i apart ∙ held c (omega (arith, occurs c b xs, some))

all_pass : (f : ℕ → Bool) (xs : List ℕ) → ((c : ℕ) → 0 < occurrences c xs → f c ≡ true) → list_all f xs ≡ true
all_pass f [] each = refl
all_pass f (b ∷ xs) each =
    both (f b) (list_all f xs) (each b (omega (arith, occurs_here b xs))) (all_pass f xs (λ c some. each c (omega (arith, occurs c b xs, some))))
  where
    both : (a b : Bool) → a ≡ true → b ≡ true → (a && b) ≡ true
    both true b one two = two
    both false b one two = one

-- numbers pass exactly if each is held and none is listed twice
pub passed_is : (i : ℕ) (old new : List Place) (xs : List ℕ) (t : Bool) → IsClaimed i old new xs t → t ≡ are_held_apart i old xs
passed_is i old new xs true h =
    sym (both (list_all (λ b. is_held_at i (entry old b)) xs) (list_all (λ b. occurrences b xs == 1) xs)
    (all_pass (λ b. is_held_at i (entry old b)) xs (λ c some. (claim_tells i old new xs h c).0 some))
    (all_pass (λ b. occurrences b xs == 1) xs (λ c some. one c some (claim_tells i old new xs h c).1)))
  where
    both : (a b : Bool) → a ≡ true → b ≡ true → (a && b) ≡ true
    both true b one two = two
    both false b one two = one

    one : (c : ℕ) → 0 < occurrences c xs → occurrences c xs ≤ 1 → (occurrences c xs == 1) ≡ true
    one c some few = grind (arith, nat_tests)
passed_is i old new xs false h = by_test (are_held_apart i old xs) refl
  where
    is_one : (n : ℕ) → (n == 1) ≡ true → n ≤ 1
    is_one n h = let e : n ≡ 1 = grind (arith, nat_tests) in omega (arith, e)

    few : list_all (λ b. occurrences b xs == 1) xs ≡ true → (c n : ℕ) → occurrences c xs ≡ n → n ≤ 1
    few all c zero is = omega arith
    few all c (suc n) is = is_one (suc n) (subst (λ (v : ℕ). (v == 1) ≡ true) is (passes (λ b. occurrences b xs == 1) xs c all (omega (arith, is))))

    by_test : (t : Bool) → are_held_apart i old xs ≡ t → false ≡ are_held_apart i old xs
    by_test false e = sym e
    by_test true e =
        let two = and_true (list_all (λ b. is_held_at i (entry old b)) xs) (list_all (λ b. occurrences b xs == 1) xs) e in
        absurd (claim_never i old xs h.0 (λ c some. passes (λ b. is_held_at i (entry old b)) xs c two.0 some) (λ c. few two.1 c (occurrences c xs) refl))

-- the marks of numbers that passed, removed again
pub passed_back : (i : ℕ) (old new : List Place) (xs : List ℕ) (t : Bool) → IsClaimed i old new xs t → t ≡ true → with_each new xs (Held i) ≡ old
passed_back i old new xs true h e = unclaimed i old new xs h
passed_back i old new xs false h e = absurd (let u : false ≡ true = e in cc)
