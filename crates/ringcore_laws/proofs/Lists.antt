-- Lemmas on lists: one element changed, under a sum, a `flat_map` or `greatest`; and the items at positions
use Rattle.std.proofs.Common.{ℕ, zero, suc, ◌+◌, ◌-◌, ◌<◌, ◌≤◌, ◌≢◌, ◌≡◌, max, List, [], ◌∷◌, ◌++◌, length, refl, ap, sym, subst, ◌∙◌, arith}
use Rattle.std.specs.Prelude.{Some, None, slice_get, slice_index_or, slice_set}
use Rattle.std.specs.List.{flat_map, sum_by, range_with_len}
use Rattle.std.specs.Option.{option_to_list}
use Rattle.std.proofs.lemmas.List.{append-nil, append_assoc, length-append, length-set, get_or-set_other, get_or-set_same, nil_from_length}
use Rattle.std.proofs.lemmas.List.Concat.{length-flat_map}
use Rattle.std.proofs.lemmas.List.Sums.{sum_by-set}
use Rattle.std.proofs.lemmas.Bool.{le-leb, lt-leb}
use Rattle.std.proofs.lemmas.Option.{slice_get_past}
use Rattle.ringcore_laws.specs.RingSide.{greatest, item_at}

-- an element that counts as much as the one before it changes no flat_map
pub flat_map-set_same : {X A : Type 0} (f : X → List A) (xs : List X) (i : ℕ) (y d : X) → i < length xs → f y ≡ f (slice_index_or xs i d)
    → flat_map f (slice_set xs i y) ≡ flat_map f xs
flat_map-set_same f [] i y d lt e = absurd (omega arith)
flat_map-set_same f (x ∷ xs) zero y d lt e = ap (λ a. a ++ flat_map f xs) e
flat_map-set_same f (x ∷ xs) (suc i) y d lt e = ap (λ a. f x ++ a) (flat_map-set_same f xs i y d (omega arith) e)

-- if there was nothing, there is what the new element has
pub flat_map-set_only : {X A : Type 0} (f : X → List A) (xs : List X) (i : ℕ) (y : X) → i < length xs → length (flat_map f xs) ≡ 0
    → flat_map f (slice_set xs i y) ≡ f y
flat_map-set_only f [] i y lt e = absurd (omega arith)
flat_map-set_only f (x ∷ xs) zero y lt e =
    let two : length (f x) + length (flat_map f xs) ≡ 0 = sym (length-append (f x) (flat_map f xs)) ∙ e in
    ap (λ a. f y ++ a) (nil_from_length (flat_map f xs) (omega arith)) ∙ append-nil (f y)
flat_map-set_only f (x ∷ xs) (suc i) y lt e =
    let two : length (f x) + length (flat_map f xs) ≡ 0 = sym (length-append (f x) (flat_map f xs)) ∙ e in
    ap (λ a. a ++ flat_map f (slice_set xs i y)) (nil_from_length (f x) (omega arith)) ∙ flat_map-set_only f xs i y (omega arith) (omega arith)

-- if there is at most one, and an element has one, that is it
pub flat_map_one : {X A : Type 0} (f : X → List A) (xs : List X) (i : ℕ) (d : X) → i < length xs → length (flat_map f xs) ≤ 1
    → 0 < length (f (slice_index_or xs i d)) → flat_map f xs ≡ f (slice_index_or xs i d)
flat_map_one f [] i d lt one some = absurd (omega arith)
flat_map_one f (x ∷ xs) zero d lt one some =
    let two : length (flat_map f (x ∷ xs)) ≡ length (f x) + length (flat_map f xs) = length-append (f x) (flat_map f xs) in
    ap (λ a. f x ++ a) (nil_from_length (flat_map f xs) (omega arith)) ∙ append-nil (f x)
flat_map_one f (x ∷ xs) (suc i) d lt one some =
    let two : length (flat_map f (x ∷ xs)) ≡ length (f x) + length (flat_map f xs) = length-append (f x) (flat_map f xs) in
    let more : length (flat_map f xs) ≤ 1 = omega arith in
    let rest = flat_map_one f xs i d (omega arith) more some in
    let has : 0 < length (flat_map f xs) = subst (λ (a : List _). 0 < length a) (sym rest) some in
    ap (λ a. a ++ flat_map f xs) (nil_from_length (f x) (omega arith)) ∙ rest

pub flat_map_part : {X A : Type 0} (f : X → List A) (xs : List X) (i : ℕ) (d : X) → i < length xs → length (f (slice_index_or xs i d)) ≤ length (flat_map f xs)
flat_map_part f [] i d lt = absurd (omega arith)
flat_map_part f (x ∷ xs) zero d lt = omega (arith, length-append (f x) (flat_map f xs))
flat_map_part f (x ∷ xs) (suc i) d lt = omega (arith, length-append (f x) (flat_map f xs), flat_map_part f xs i d (omega arith))

-- a sum after two elements become one, and the other counts nothing
pub sum_by_joined : {X : Type 0} (f : X → ℕ) (xs : List X) (i j : ℕ) (m e d : X) → i < length xs → j < length xs → j ≢ i
    → f m ≡ f (slice_index_or xs i d) + f (slice_index_or xs j d) → f e ≡ 0 → sum_by f (slice_set (slice_set xs i m) j e) ≡ sum_by f xs
sum_by_joined f xs i j m e d at_i at_j apart both none =
    let inside : j < length (slice_set xs i m) = rw length-set at_j in
    let h1 = sum_by-set f xs i m d at_i in
    let h2 = sum_by-set f (slice_set xs i m) j e d inside in
    let h3 : f (slice_index_or (slice_set xs i m) j d) ≡ f (slice_index_or xs j d) = ap f (get_or-set_other xs i j m d apart) in
    omega arith

-- the same for a flat_map that has at most one
pub flat_map_joined : {X A : Type 0} (f : X → List A) (xs : List X) (i j : ℕ) (m e d : X) → i < length xs → j < length xs → j ≢ i
    → f m ≡ f (slice_index_or xs i d) ++ f (slice_index_or xs j d) → f e ≡ [] → length (flat_map f xs) ≤ 1
    → flat_map f (slice_set (slice_set xs i m) j e) ≡ flat_map f xs
flat_map_joined {X} {A} f xs i j m e d at_i at_j apart both none one = by_cases (f (slice_index_or xs j d)) refl
  where
    inside : j < length (slice_set xs i m)
    inside = rw length-set at_j

    same : slice_index_or (slice_set xs i m) j d ≡ slice_index_or xs j d
    same = get_or-set_other xs i j m d apart

    len : length (flat_map f (slice_set (slice_set xs i m) j e)) ≡ length (flat_map f xs)
    len =
        length-flat_map f (slice_set (slice_set xs i m) j e)
        ∙ (sum_by_joined (λ x. length (f x)) xs i j m e d at_i at_j apart
        (ap length both ∙ length-append (f (slice_index_or xs i d)) (f (slice_index_or xs j d))) (ap length none)
        ∙ sym (length-flat_map f xs))

    kept : slice_index_or (slice_set (slice_set xs i m) j e) i d ≡ m
    kept = get_or-set_other (slice_set xs i m) j i e d (λ h. apart (sym h)) ∙ get_or-set_same xs i m d at_i

    by_cases : (a : List A) → f (slice_index_or xs j d) ≡ a → flat_map f (slice_set (slice_set xs i m) j e) ≡ flat_map f xs
    by_cases [] h =
        flat_map-set_same f (slice_set xs i m) j e d inside (none ∙ sym (ap f same ∙ h))
        ∙ flat_map-set_same f xs i m d at_i (both ∙ (ap (λ a. f (slice_index_or xs i d) ++ a) h ∙ append-nil _))
    by_cases (a ∷ rest) h =
        let some : 0 < length (f (slice_index_or xs j d)) = subst (λ (v : List A). 0 < length v) (sym h) (omega arith) in
        let has : length (f m) ≡ length (f (slice_index_or xs i d)) + length (f (slice_index_or xs j d)) =
        ap length both ∙ length-append (f (slice_index_or xs i d)) (f (slice_index_or xs j d)) in
        let whole = flat_map_one f xs j d at_j one some in
        let lt : i < length (slice_set (slice_set xs i m) j e) = rw (length-set, length-set) at_i in
        let there : 0 < length (f (slice_index_or (slice_set (slice_set xs i m) j e) i d)) = subst (λ (v : X). 0 < length (f v)) (sym kept) (omega arith) in
        let new = flat_map_one f (slice_set (slice_set xs i m) j e) i d lt (omega (arith, len)) there in
        let one_of : length (f m) ≤ 1 = omega (arith, len, ap length new, ap (λ v. length (f v)) kept) in
        let empty : f (slice_index_or xs i d) ≡ [] = nil_from_length (f (slice_index_or xs i d)) (omega arith) in
        new ∙ (ap f kept ∙ (both ∙ (ap (λ a. a ++ f (slice_index_or xs j d)) empty ∙ sym whole)))

-- what holds for each element holds after one has changed
pub each_set : {X : Type 0} (P : X → Type 0) (xs : List X) (i : ℕ) (y : X) → ((k : ℕ) (d : X) → k < length xs → P (slice_index_or xs k d)) → P y
    → (k : ℕ) (d : X) → k < length (slice_set xs i y) → P (slice_index_or (slice_set xs i y) k d)
each_set P [] i y all new k d lt = absurd (omega arith)
each_set P (x ∷ xs) zero y all new zero d lt = new
each_set P (x ∷ xs) zero y all new (suc k) d lt = all (suc k) d (omega arith)
each_set P (x ∷ xs) (suc i) y all new zero d lt = all zero d (omega arith)
each_set P (x ∷ xs) (suc i) y all new (suc k) d lt = each_set P xs i y (λ j e h. all (suc j) e (omega arith)) new k d (omega arith)

pub each_push : {X : Type 0} (P : X → Type 0) (xs : List X) (y : X) → ((k : ℕ) (d : X) → k < length xs → P (slice_index_or xs k d)) → P y
    → (k : ℕ) (d : X) → k < length (xs ++ y ∷ []) → P (slice_index_or (xs ++ y ∷ []) k d)
each_push P [] y all new zero d lt = new
each_push P [] y all new (suc k) d lt = absurd (omega arith)
each_push P (x ∷ xs) y all new zero d lt = all zero d (omega arith)
each_push P (x ∷ xs) y all new (suc k) d lt = each_push P xs y (λ j e h. all (suc j) e (omega arith)) new k d (omega arith)

-- greatest

pub greatest_ge : {X : Type 0} (f : X → ℕ) (xs : List X) (i : ℕ) (d : X) → i < length xs → f (slice_index_or xs i d) ≤ greatest f xs
greatest_ge f [] i d lt = absurd (omega arith)
greatest_ge f (x ∷ xs) zero d lt = omega arith
greatest_ge f (x ∷ xs) (suc i) d lt = omega (arith, greatest_ge f xs i d (omega arith))

pub greatest-set : {X : Type 0} (f : X → ℕ) (xs : List X) (i : ℕ) (y d : X) → i < length xs
    → max (greatest f (slice_set xs i y)) (f (slice_index_or xs i d)) ≡ max (greatest f xs) (f y)
greatest-set f [] i y d lt = absurd (omega arith)
greatest-set f (x ∷ xs) zero y d lt = omega arith
greatest-set f (x ∷ xs) (suc i) y d lt = omega (arith, greatest-set f xs i y d (omega arith))

pub greatest-append : {X : Type 0} (f : X → ℕ) (xs ys : List X) → greatest f (xs ++ ys) ≡ max (greatest f xs) (greatest f ys)
greatest-append f [] ys = omega arith
greatest-append f (x ∷ xs) ys = omega (arith, greatest-append f xs ys)

pub greatest_joined : {X : Type 0} (f : X → ℕ) (xs : List X) (i j : ℕ) (m e d : X) → i < length xs → j < length xs → j ≢ i
    → f m ≡ max (f (slice_index_or xs i d)) (f (slice_index_or xs j d)) → f e ≡ 0 → greatest f (slice_set (slice_set xs i m) j e) ≡ greatest f xs
greatest_joined f xs i j m e d at_i at_j apart both none =
    let inside : j < length (slice_set xs i m) = rw length-set at_j in
    let lt : i < length (slice_set (slice_set xs i m) j e) = rw (length-set, length-set) at_i in
    let h1 = greatest-set f xs i m d at_i in
    let h2 = greatest-set f (slice_set xs i m) j e d inside in
    let h3 : f (slice_index_or (slice_set xs i m) j d) ≡ f (slice_index_or xs j d) = ap f (get_or-set_other xs i j m d apart) in
    let h4 = greatest_ge f xs i d at_i in
    let h5 = greatest_ge f xs j d at_j in
    let h6 = greatest_ge f (slice_set (slice_set xs i m) j e) i d lt in
    let h7 : f (slice_index_or (slice_set (slice_set xs i m) j e) i d) ≡ f m =
    ap f (get_or-set_other (slice_set xs i m) j i e d (λ h. apart (sym h)) ∙ get_or-set_same xs i m d at_i) in
    let h8 : f m ≤ greatest f (slice_set xs i m) =
    omega (arith, greatest_ge f (slice_set xs i m) i d (rw length-set at_i), ap f (get_or-set_same xs i m d at_i)) in
    omega arith

-- items at positions

pub item_at_in : {A : Type 0} (start : ℕ) (items : List A) (p : ℕ) → start ≤ p → item_at start items p ≡ option_to_list (slice_get items (p - start))
item_at_in start items p le = rw (le-leb start p le)

pub item_at_before : {A : Type 0} (start : ℕ) (items : List A) (p : ℕ) → p < start → item_at start items p ≡ []
item_at_before start items p lt = rw (lt-leb start p lt)

pub item_at_past : {A : Type 0} (start : ℕ) (items : List A) (p : ℕ) → start + length items ≤ p → item_at start items p ≡ []
item_at_past start items p le = item_at_in start items p (omega arith) ∙ ap option_to_list (slice_get_past items (p - start) (omega arith))

pub item_at_step : {A : Type 0} (start : ℕ) (x : A) (items : List A) (p : ℕ) → start < p → item_at start (x ∷ items) p ≡ item_at (start + 1) items p
item_at_step start x items p lt =
    item_at_in start (x ∷ items) p (omega arith) ∙ (ap (λ n. option_to_list (slice_get (x ∷ items) n)) shift
    ∙ sym (item_at_in (start + 1) items p (omega arith)))
  where
    shift : p - start ≡ suc (p - (start + 1))
    shift = omega arith

pub flat_map_range_same : {A : Type 0} (f g : ℕ → List A) (a n : ℕ) → ((p : ℕ) → a ≤ p → p < a + n → f p ≡ g p)
    → flat_map f (range_with_len a n) ≡ flat_map g (range_with_len a n)
flat_map_range_same f g a zero h = refl
flat_map_range_same f g a (suc n) h =
    ap (λ v. v ++ flat_map f (range_with_len (a + 1) n)) (h a (omega arith) (omega arith))
    ∙ ap (λ v. g a ++ v) (flat_map_range_same f g (a + 1) n (λ p le lt. h p (omega arith) (omega arith)))

pub flat_map_range_split : {A : Type 0} (f : ℕ → List A) (a m n : ℕ)
    → flat_map f (range_with_len a (m + n)) ≡ flat_map f (range_with_len a m) ++ flat_map f (range_with_len (a + m) n)
flat_map_range_split f a zero n =
    let e : 0 + n ≡ n = omega arith in
    let e' : a ≡ a + 0 = omega arith in
    ap (λ v. flat_map f (range_with_len a v)) e ∙ ap (λ v. flat_map f (range_with_len v n)) e'
flat_map_range_split f a (suc m) n =
    let e : suc m + n ≡ suc (m + n) = omega arith in
    let e' : (a + 1) + m ≡ a + suc m = omega arith in
    ap (λ v. flat_map f (range_with_len a v)) e
    ∙ (ap (λ v. f a ++ v) (flat_map_range_split f (a + 1) m n ∙ ap (λ v. flat_map f (range_with_len (a + 1) m) ++ flat_map f (range_with_len v n)) e')
    ∙ sym (append_assoc (f a) (flat_map f (range_with_len (a + 1) m)) (flat_map f (range_with_len (a + suc m) n))))

-- the items of a list, read at their positions, are the list
pub flat_map_range_items : {A : Type 0} (a : ℕ) (xs : List A) → flat_map (item_at a xs) (range_with_len a (length xs)) ≡ xs
flat_map_range_items a [] = refl
flat_map_range_items a (x ∷ xs) =
    ap (λ v. v ++ flat_map (item_at a (x ∷ xs)) (range_with_len (a + 1) (length xs)))
    (item_at_in a (x ∷ xs) a (omega arith) ∙ ap (λ n. option_to_list (slice_get (x ∷ xs) n)) here)
    ∙ ap (λ v. x ∷ v) (flat_map_range_same (item_at a (x ∷ xs)) (item_at (a + 1) xs) (a + 1) (length xs) (λ p le lt. item_at_step a x xs p (omega arith))
    ∙ flat_map_range_items (a + 1) xs)
  where
    here : a - a ≡ 0
    here = omega arith

-- the element that was set, and any other
pub get_set : {X : Type 0} (xs : List X) (i : ℕ) (x y : X) → slice_get (slice_set xs i x) i ≡ Some y → x ≡ y
get_set [] i x y h = absurd (let u : None ≡ Some y = h in cc)
get_set (z ∷ zs) zero x y h = let u : Some x ≡ Some y = h in cc
get_set (z ∷ zs) (suc i) x y h = get_set zs i x y h

pub get_set_other : {X : Type 0} (xs : List X) (i j : ℕ) (x : X) → j ≢ i → slice_get (slice_set xs i x) j ≡ slice_get xs j
get_set_other [] i j x apart = refl
get_set_other (z ∷ zs) zero zero x apart = absurd (apart refl)
get_set_other (z ∷ zs) zero (suc j) x apart = refl
get_set_other (z ∷ zs) (suc i) zero x apart = refl
get_set_other (z ∷ zs) (suc i) (suc j) x apart = get_set_other zs i j x (λ h. apart (ap suc h))
