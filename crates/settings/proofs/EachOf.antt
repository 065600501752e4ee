-- The results of a function for each element, one after another. The elements are seen by a view.
use Rattle.std.proofs.Common.{◌≡◌, ℕ, zero, suc, ◌+◌, ◌<◌, List, [], ◌∷◌, ◌++◌, length, take, map, get_or, Option, Some, None, refl, ap, ap₂, ◌∙◌, arith}
use Rattle.std.proofs.lemmas.List.{take_more, map-append}
use Rattle.settings.specs.Lists.{with_first, each_of}

abbrev with_last : {B : Type 0} → Option (List B) → Option B → Option (List B)
with_last (Some xs) (Some x) = Some (xs ++ x ∷ [])
with_last (Some xs) None = None
with_last None x = None

between : {B : Type 0} (a : Option B) (b : Option (List B)) (c : Option B) → with_first a (with_last b c) ≡ with_last (with_first a b) c
between (Some x) (Some xs) (Some y) = refl
between (Some x) (Some xs) None = refl
between (Some x) None c = refl
between None b c = refl

first_last : {B : Type 0} (a : Option B) → with_first a (Some []) ≡ with_last (Some []) a
first_last (Some x) = refl
first_last None = refl

each_of-push : {A B : Type 0} (f : A → Option B) (xs : List A) (x : A) → each_of f (xs ++ x ∷ []) ≡ with_last (each_of f xs) (f x)
each_of-push f [] x = first_last (f x)
each_of-push f (v ∷ xs) x = ap (with_first (f v)) (each_of-push f xs x) ∙ between (f v) (each_of f xs) (f x)

-- one more element
pub each_of_more : {A B X : Type 0} (f : A → Option B) (g : X → A) (xs : List X) (k : ℕ) (d : X) (ys : List B) (y : B)
    → k < length xs → each_of f (map g (take k xs)) ≡ Some ys → f (g (get_or xs k d)) ≡ Some y
    → each_of f (map g (take (k + 1) xs)) ≡ Some (ys ++ y ∷ [])
each_of_more f g xs k d ys y there before here =
    ap (each_of f) (ap (map g) (take_more xs k d there) ∙ map-append g (take k xs) (get_or xs k d ∷ []))
    ∙ each_of-push f (map g (take k xs)) (g (get_or xs k d))
    ∙ ap₂ with_last before here

none_first : {B : Type 0} (a : Option B) → with_first a None ≡ None
none_first (Some x) = refl
none_first None = refl

-- one element for which it has no result
pub each_of_none : {A B X : Type 0} (f : A → Option B) (g : X → A) (xs : List X) (k : ℕ) (d : X)
    → k < length xs → f (g (get_or xs k d)) ≡ None → each_of f (map g xs) ≡ None
each_of_none f g [] k d there here = absurd (omega arith)
each_of_none f g (v ∷ xs) zero d there here = ap (λ o. with_first o (each_of f (map g xs))) here
each_of_none f g (v ∷ xs) (suc k) d there here =
    ap (with_first (f (g v))) (each_of_none f g xs k d (omega arith) here) ∙ none_first (f (g v))
