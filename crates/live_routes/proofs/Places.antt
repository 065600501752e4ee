-- Lists that are written place by place
use Rattle.std.proofs.Common.{◌≡◌, ◌+◌, ◌<◌, ◌≤◌, ℕ, List, [], ◌∷◌, ◌++◌, ap, arith, drop, get_or, length, map, refl, set, sym, take, ◌∙◌}
use Rattle.std.proofs.lemmas.List.{drop-drop, drop-set-lt, get_or-drop, map_more, take-append-le, take-map, take_all, take_more_set}
use Rattle.std.proofs.lemmas.Slice.Zip.{get_or-zip, length-zip}
use Rattle.std.specs.List.{zip}

-- one more place has what belongs there
pub mapped_more : {A B : Type 0} (f : A → B) (xs : List A) (ys : List B) (i : ℕ) (x : A) (y : B) → i < length xs → i < length ys
    → get_or xs i x ≡ x → take i ys ≡ take i (map f xs) → y ≡ f x → take (i + 1) (set ys i y) ≡ take (i + 1) (map f xs)
mapped_more f xs ys i x y below room at done is =
    take_more_set ys i y room
    ∙ ap (λ zs. zs ++ y ∷ []) (done ∙ take-map f i xs)
    ∙ ap (λ z. map f (take i xs) ++ z ∷ []) (is ∙ ap f (sym at))
    ∙ sym (take-map f (i + 1) xs ∙ map_more f xs i x below)

-- the same of pairs
pub zipped_more : {A B C : Type 0} (f : A × B → C) (xs : List A) (ys : List B) (zs : List C) (i : ℕ) (x : A) (y : B) (z : C) → i < length xs
    → i < length ys → i < length zs → get_or xs i x ≡ x → get_or ys i y ≡ y → take i zs ≡ take i (map f (zip xs ys)) → z ≡ f (x, y)
    → take (i + 1) (set zs i z) ≡ take (i + 1) (map f (zip xs ys))
zipped_more f xs ys zs i x y z below there room at_x at_y done is =
    mapped_more f (zip xs ys) zs i (x, y) z (omega (arith, below, there, length-zip xs ys)) room
    (get_or-zip xs ys i (x, y) below there ∙ (λ k. (at_x k, at_y k))) done is

-- a place that isn't written yet is as it was
pub same_place : {A : Type 0} (xs ys : List A) (i : ℕ) (d : A) → drop i xs ≡ drop i ys → get_or xs i d ≡ get_or ys i d
same_place xs ys i d same =
    let here : i + 0 ≡ i = omega arith in
    sym (get_or-drop i xs 0 d ∙ ap (λ n. get_or xs n d) here) ∙ ap (λ zs. get_or zs 0 d) same
    ∙ get_or-drop i ys 0 d ∙ ap (λ n. get_or ys n d) here

-- so are those after one that is written
pub rest_kept : {A : Type 0} (xs ys : List A) (i : ℕ) (y : A) → drop i xs ≡ drop i ys → drop (i + 1) (set xs i y) ≡ drop (i + 1) ys
rest_kept xs ys i y same =
    drop-set-lt (i + 1) xs i y (omega arith) ∙ sym (drop-drop 1 i xs) ∙ ap (drop 1) same ∙ drop-drop 1 i ys

-- pairs of what is made of each element, and the element
pub map-zip : {A B C : Type 0} (h : B → A → C) (g : A → B) (xs : List A) → map (λ (p : B × A). h p.0 p.1) (zip (map g xs) xs) ≡ map (λ x. h (g x) x) xs
map-zip h g [] = refl
map-zip h g (x ∷ xs) = ap (λ zs. h (g x) x ∷ zs) (map-zip h g xs)

-- a list that is written to its end
pub finished : {A : Type 0} (xs ys : List A) (i : ℕ) → length xs ≤ i → length ys ≤ i → take i xs ≡ take i ys → xs ≡ ys
finished xs ys i all whole same = sym (take_all i xs all) ∙ same ∙ take_all i ys whole

-- a front that was written
pub front : {A : Type 0} (n : ℕ) (xs rest : List A) → length xs ≡ n → take n (xs ++ rest) ≡ xs
front n xs rest long = take-append-le n xs rest (omega (arith, long)) ∙ take_all n xs (omega (arith, long))
