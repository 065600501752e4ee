-- How many members a search tree has.
use Rattle.std.proofs.Common.{◌≡◌, ℕ, ◌+◌, cond, Some, None, List, [], ◌∷◌, map, length, refl, ap, ◌∙◌, is_some, arith}
use Rattle.std.specs.Ordering.{is_eq}
use Rattle.std.specs.declared.cmp.Ordering.TheVariants.{Less}
use Rattle.std.specs.List.{AllByRecursion}
use Rattle.std.specs.List.Sorted.{IsStrictlySortedBy}
use Rattle.std.specs.FinMap as map_of
use Rattle.std.specs.FinMap.{find, from_entries, get-from_entries, len-insert, len-empty}
use Rattle.lpm.specs.declared.prefix.Prefix.{Prefix}
use Rattle.lpm.specs.Prefixes.{prefix_cmp}
use Rattle.lpm.proofs.Keys.{prefix_total}

-- what is below every key is none of them
absent : (q : Prefix) (es : List (Prefix × ℕ)) → AllByRecursion (λ y. prefix_cmp q y ≡ Less) (map (λ e. e.0) es)
    → find prefix_cmp q es ≡ None
absent q [] h = refl
absent q (e ∷ es) h = ap (λ o. cond (is_eq o) (Some e.1) (find prefix_cmp q es)) h.0 ∙ absent q es h.1

pub count : (es : List (Prefix × ℕ)) → IsStrictlySortedBy prefix_cmp (map (λ e. e.0) es)
    → map_of.len (from_entries {R = prefix_cmp} es) ≡ length es
unfolding IsStrictlySortedBy
count [] h = len-empty prefix_cmp ℕ
count (e ∷ es) h =
    let m = from_entries {R = prefix_cmp} es in
    let none = get-from_entries prefix_total es e.0 ∙ absent e.0 es h.0 in
    let longer : map_of.len (map_of.insert m e.0 e.1) ≡ map_of.len m + 1 =
    len-insert prefix_total m e.0 e.1 ∙ ap (λ o. cond (is_some o) (map_of.len m) (map_of.len m + 1)) none in
    omega (arith, longer, count es h.1)
