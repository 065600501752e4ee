-- One more place of an array that is filled from its front
use Rattle.std.proofs.Common.{◌≡◌, ℕ, ◌+◌, ◌<◌, ◌∙◌, List, [], ◌∷◌, ◌++◌, ap, arith, drop, get_or, length, map, set, sym, take}
use Rattle.std.proofs.lemmas.List.{get_or-drop, get_or-map, get_or-take, length-map, map_more, take-map}
use Rattle.std.proofs.lemmas.List.{take_more_set}

pub filled_more : (f : ℕ → ℕ) (xs ys : List ℕ) (i y : ℕ) → i < length xs → i < length ys
    → take i ys ≡ take i (map f xs) → y ≡ f (get_or xs i 0) → take (i + 1) (set ys i y) ≡ take (i + 1) (map f xs)
filled_more f xs ys i y below room done found =
    take_more_set ys i y room ∙ ap (λ (zs : List ℕ). zs ++ y ∷ []) (done ∙ take-map f i xs)
    ∙ ap (λ z. map f (take i xs) ++ z ∷ []) found ∙ sym (take-map f (i + 1) xs ∙ map_more f xs i 0 below)

-- what a list of results for a part of a list has at one place
pub found_at : {A : Type 0} (f : ℕ → A) (d : A) (xs : List ℕ) (at m i : ℕ) (ys : List A) → ys ≡ map f (take m (drop at xs))
    → i < m → i < length ys → get_or ys i d ≡ f (get_or xs (at + i) 0)
found_at f d xs at m i ys is below there =
    let part = take m (drop at xs) in
    let within : i < length part = omega (arith, there, ap length is, length-map part f) in
    ap (λ l. get_or l i d) is ∙ get_or-map f part i 0 d within ∙ ap f (get_or-take m (drop at xs) i 0 below ∙ get_or-drop at xs i 0)
