-- Prefixes as the keys of a search tree and of a finite map: both find the same hop.
use Rattle.std.proofs.Common.{◌≡◌, ℕ, cond, Option, Some, None, List, [], ◌∷◌, refl, sym, ap, ◌∙◌}
use Rattle.std.specs.declared.cmp.Ordering.TheVariants.{Less, Equal, Greater}
use Rattle.std.specs.declared.cmp.Ordering.{Ordering}
use Rattle.std.specs.Ordering.{nat_cmp, is_eq, eq_by_cmp, ordering_then}
use Rattle.std.specs.Cmp.{IsTotalOrder, nat_cmp_total, on_total, then_total, eq_by_cmp_equiv}
use Rattle.std.specs.FinMap as map
use Rattle.std.specs.FinMap.{IsAntisymmetric, nat_cmp-IsAntisymmetric, find, from_entries, get-from_entries, get-insert, get-remove, same_map}
use Rattle.std.specs.Map.{lookup}
use Rattle.std.specs.BTreeMap as tree
use Rattle.lpm.specs.declared.prefix.Prefix.{Prefix}
use Rattle.lpm.specs.Prefixes.{prefix_cmp}

pub prefix_total : IsTotalOrder prefix_cmp
prefix_total = then_total (on_total (λ (p : Prefix). p.address) nat_cmp_total) (on_total (λ (p : Prefix). p.depth) nat_cmp_total)

-- what follows from two equal parts
both_equal : (a b : Ordering) → ordering_then a b ≡ Equal → (a ≡ Equal) × (b ≡ Equal)
both_equal Less b e = cc
both_equal Equal b e = (refl, e)
both_equal Greater b e = cc

pub prefix_antisymmetric : IsAntisymmetric prefix_cmp
prefix_antisymmetric x y e =
    let parts = both_equal (nat_cmp x.address y.address) (nat_cmp x.depth y.depth) e in
    λ i. record {
      address = nat_cmp-IsAntisymmetric x.address y.address parts.0 i;
      depth = nat_cmp-IsAntisymmetric x.depth y.depth
          parts.1 i;
    }

find-lookup : (q : Prefix) (es : List (Prefix × ℕ)) → find prefix_cmp q es ≡ lookup (λ k. is_eq (prefix_cmp q k)) es
find-lookup q [] = refl
find-lookup q (e ∷ es) = ap (cond (is_eq (prefix_cmp q e.0)) (Some e.1)) (find-lookup q es)

-- what the tree finds is what the map has
pub get-tree : (m : tree.BTreeMap Prefix ℕ) (q : Prefix) → map.get (from_entries {R = prefix_cmp} m.entries) q ≡ tree.get prefix_cmp m q
get-tree m q = get-from_entries prefix_total m.entries q ∙ find-lookup q m.entries

flipped : (k q : Prefix) (v w : Option ℕ) → cond (is_eq (prefix_cmp k q)) v w ≡ cond (eq_by_cmp prefix_cmp q k) v w
flipped k q v w = ap (λ b. cond b v w) ((eq_by_cmp_equiv prefix_total).symm k q)

pub insert-tree : (m n : tree.BTreeMap Prefix ℕ) (k : Prefix) (v : ℕ) → tree.Updates prefix_cmp m n k (Some v)
    → from_entries {R = prefix_cmp} n.entries ≡ map.insert (from_entries m.entries) k v
insert-tree m n k v u = same_map prefix_total prefix_antisymmetric _ _ (λ q.
    get-tree n q ∙ u.0 q ∙ flipped k q (Some v) _ ∙ ap (cond (eq_by_cmp prefix_cmp q k) (Some v)) (sym (get-tree m q))
    ∙ sym (get-insert prefix_total _ k v q))

pub remove-tree : (m n : tree.BTreeMap Prefix ℕ) (k : Prefix) → tree.Updates prefix_cmp m n k None
    → from_entries {R = prefix_cmp} n.entries ≡ map.remove (from_entries m.entries) k
remove-tree m n k u = same_map prefix_total prefix_antisymmetric _ _ (λ q.
    get-tree n q ∙ u.0 q ∙ flipped k q None _ ∙ ap (cond (eq_by_cmp prefix_cmp q k) None) (sym (get-tree m q))
    ∙ sym (get-remove prefix_total _ k q))
