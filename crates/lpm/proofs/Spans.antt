-- What a range of a search tree shows about the members between two prefixes.
use Rattle.std.proofs.Common.{◌≡◌, ℕ, Bool, List, [], ◌∷◌, Option, Some, None, is_some, sym, ◌∙◌, subst, Bor}
use Rattle.std.specs.Bool.{OnTrue, OnFalse}
use Rattle.std.specs.Map.Iter.{TakesFirst, deref_pair}
use Rattle.std.specs.BTreeMap as tree
use Rattle.std.specs.BTreeMap.Range.{IsRangeOf, IsEntryInRange}
use Rattle.std.specs.List.{slice_get}
use Rattle.std.specs.Option.{IfSome}
use Rattle.std.specs.declared.ops.Bound.TheVariants.{Included}
use Rattle.std.specs.FinMap.{from_entries}
use Rattle.lpm.specs.declared.prefix.Prefix.{Prefix}
use Rattle.lpm.specs.Prefixes.{prefix_cmp}
use Rattle.lpm.specs.Between.{SomeBetween, NoneBetween}
use Rattle.lpm.proofs.Keys.{get-tree}

module _ (m : tree.BTreeMap Prefix ℕ) (low high : Prefix) (r t : List (Prefix × ℕ))
    (is : IsRangeOf prefix_cmp (Included low) (Included high) m r) where
  some_between : (e : Prefix × ℕ) → r ≡ e ∷ t → SomeBetween (from_entries m.entries) low high
  some_between e first =
      let here : IfSome (slice_get (e ∷ t) 0) (IsEntryInRange prefix_cmp (Included low) (Included high) m) =
      subst (λ es. IfSome (slice_get es 0) (IsEntryInRange prefix_cmp (Included low) (Included high) m)) first is.1 in
      (e.0, e.1, here.0, get-tree m e.0 ∙ here.1)

  none_between : r ≡ [] → NoneBetween (from_entries m.entries) low high
  none_between empty p between = get-tree m p ∙ is.5 empty p between

  pub range_found : (o : Option (Bor Prefix × Bor ℕ)) (b : Bool) → TakesFirst deref_pair r o t → b ≡ is_some o
      → OnTrue b (SomeBetween (from_entries m.entries) low high)
  range_found None b step e = subst (λ c. OnTrue c (SomeBetween (from_entries m.entries) low high)) (sym e) tt
  range_found (Some x) b step e = subst (λ c. OnTrue c (SomeBetween (from_entries m.entries) low high)) (sym e)
      (some_between (deref_pair x) step)

  pub range_empty : (o : Option (Bor Prefix × Bor ℕ)) (b : Bool) → TakesFirst deref_pair r o t → b ≡ is_some o
      → OnFalse b (NoneBetween (from_entries m.entries) low high)
  range_empty None b step e = subst (λ c. OnFalse c (NoneBetween (from_entries m.entries) low high)) (sym e) (none_between step.0)
  range_empty (Some x) b step e = subst (λ c. OnFalse c (NoneBetween (from_entries m.entries) low high)) (sym e) tt
