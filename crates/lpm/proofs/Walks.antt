-- What a range of a search tree shows of the first member that is not before a prefix, and when a walk ends.
use Rattle.std.proofs.Common.{◌≡◌, ℕ, ◌-◌, ◌<◌, cond, List, [], ◌∷◌, Some, is_some, IsSome, sym, ap, ◌∙◌, subst, inl}
use Rattle.std.proofs.Common.{inr, arith}
use Rattle.std.proofs.lemmas.Bool.{cases_lt}
use Rattle.std.specs.BTreeMap as tree
use Rattle.std.specs.BTreeMap.Range.{IsRangeOf, IsEntryInRange, IsLeBy}
use Rattle.std.specs.List.{slice_get}
use Rattle.std.specs.Option.{IfSome}
use Rattle.std.specs.declared.ops.Bound.TheVariants.{Included, Unbounded}
use Rattle.std.specs.FinMap as map
use Rattle.std.specs.FinMap.{from_entries, same_map, get-empty, len-remove}
use Rattle.lpm.specs.declared.prefix.Prefix.{Prefix}
use Rattle.lpm.specs.Prefixes.{Members, prefix_cmp, prefix_of, masked}
use Rattle.lpm.specs.Listing.{IsFirstFrom, NoneFrom}
use Rattle.lpm.proofs.Keys.{get-tree, prefix_total, prefix_antisymmetric}
use Rattle.lpm.proofs.Deeper.{to_le}

module _ (m : tree.BTreeMap Prefix ℕ) (low : Prefix) (r t : List (Prefix
    × ℕ)) (is : IsRangeOf prefix_cmp (Included low) Unbounded m r) where
  pub first_shown : (e : Prefix × ℕ) → r ≡ e ∷ t → IsFirstFrom (from_entries m.entries) low e.0 e.1
  first_shown e first =
      let here : IfSome (slice_get (e ∷ t) 0) (IsEntryInRange prefix_cmp (Included low) Unbounded m) =
      subst (λ es. IfSome (slice_get es 0) (IsEntryInRange prefix_cmp (Included low) Unbounded m)) first is.1 in
      record {
        member = get-tree m e.0 ∙ here.1;
        from = here.0.0;
        first = λ q le there. subst (λ es. IfSome (slice_get es 0) (λ d. IsLeBy prefix_cmp d.0 q)) first
            (is.2 q (le, tt) (subst IsSome (get-tree m q) there));
      }

  pub none_shown : r ≡ [] → NoneFrom (from_entries m.entries) low
  none_shown empty q le = get-tree m q ∙ is.5 empty q (le, tt)

-- each prefix is at least the first of all
least : (q : Prefix) → IsLeBy prefix_cmp record { address = 0; depth = 0 } q
least q = to_le record { address = 0; depth = 0 } q
    (elim (cases_lt 0 q.address) [ inl less ↦ inl less | inr same ↦ inr (omega arith, omega arith) ])

pub walked : (m : Members) → NoneFrom m record { address = 0; depth = 0 } → m ≡ map.empty
walked m none = same_map prefix_total prefix_antisymmetric m map.empty (λ q. none q (least q)
    ∙ sym (get-empty prefix_cmp q))

-- removing a member leaves fewer
pub fewer : (m n : Members) (p q : Prefix) (hop : ℕ) → map.get m p ≡ Some hop → q ≡ p → n ≡ map.remove m q
    → map.len n < map.len m
fewer m n p q hop e same gone =
    let one : map.len (map.remove m q) ≡ map.len m - 1 = len-remove prefix_total m q
    ∙ ap (λ o. cond (is_some o) (map.len m - 1) (map.len m)) (ap (map.get m) same ∙ e) in
    elim (cases_lt 0 (map.len m)) [
      | inl some ↦ omega (arith, some, one, ap map.len gone)
      | inr none ↦
          let empty = map.empty_of_len m (omega (arith, none)) in
          let missing = sym (get-empty prefix_cmp p) ∙ (ap (λ x. map.get x p) (sym empty) ∙ e) in
          cc
    ]

-- a prefix without bits after its depth is its own
pub own_prefix : (p : Prefix) → masked p.address p.depth ≡ p.address → prefix_of p.address p.depth ≡ p
own_prefix p e = ap (λ a. record { address = a; depth = p.depth }) e
