-- The numbers of segments that are linked, one after another from the last on.
use Rattle.std.proofs.Common.{◌≡◌, ℕ, List, [], ◌∷◌, ◌++◌, sym, ap, ◌∙◌, append_assoc, append-nil, arith}
use Rattle.std.specs.List.{flat_map}
use Rattle.std.proofs.lemmas.List.Sums.{sum_by-append}
use Rattle.std.specs.Prelude.{◌==◌, cond}
use Rattle.burst.specs.Numbers.{AreDistinct}

-- the last of them moves over
pub last_over : {T : Type 0} (f : T → List ℕ) (xs : List T) (p : T) (ns : List ℕ) → flat_map f (xs ++ p ∷ []) ++ ns ≡ flat_map f xs ++ (f p ++ ns)
last_over f [] p ns = ap (λ l. l ++ ns) (append-nil (f p))
last_over f (x ∷ xs) p ns =
    append_assoc (f x) (flat_map f (xs ++ p ∷ [])) ns
    ∙ (ap (λ l. f x ++ l) (last_over f xs p ns) ∙ sym (append_assoc (f x) (flat_map f xs) (f p ++ ns)))

-- the last of distinct numbers are distinct
pub last_distinct : (xs ys : List ℕ) → AreDistinct (xs ++ ys) → AreDistinct ys
last_distinct xs ys all b = omega (arith, all b, sum_by-append (λ n. cond (n == b) 1 0) xs ys)
