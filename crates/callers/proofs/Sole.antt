-- The longest match in a table with one route.
use Rattle.std.proofs.Common.{◌≡◌, ℕ, Bool, true, false, cond, Option, Some, None, sym, ap, ◌∙◌}
use Rattle.std.specs.Ordering.{is_eq, eq_by_cmp}
use Rattle.std.specs.Cmp.{tied_itself}
use Rattle.std.specs.FinMap as map
use Rattle.std.specs.FinMap.{get-insert, get-empty}
use Rattle.lpm.specs.declared.prefix.Prefix.{Prefix}
use Rattle.lpm.specs.Prefixes.{Members, IsDepth, prefix_cmp, prefix_of}
use Rattle.lpm.specs.Match.{IsLongestMatch}
use Rattle.lpm.proofs.Keys.{prefix_total}

-- the table with this one route
abbrev pub sole : Prefix → ℕ → Members
sole p hop = map.insert map.empty p hop

sole_here : (p : Prefix) (hop : ℕ) → map.get (sole p hop) p ≡ Some hop
sole_here p hop = get-insert prefix_total map.empty p hop p ∙ ap
    (λ b. cond b (Some hop) (map.get (map.empty {K = Prefix} {X = ℕ} {R = prefix_cmp}) p)) (ap is_eq (tied_itself prefix_total p))

-- what is found under a key if only one hop can be found
only : (b : Bool) (hop h : ℕ) → cond b (Some hop) None ≡ Some h → hop ≡ h
only true hop h e = cc
only false hop h e = cc

sole_hop : (p q : Prefix) (hop h : ℕ) → map.get (sole p hop) q ≡ Some h → hop ≡ h
sole_hop p q hop h e =
    only (eq_by_cmp prefix_cmp q p) hop h
    (ap (λ v. cond (eq_by_cmp prefix_cmp q p) (Some hop) v) (sym (get-empty {X = ℕ} prefix_cmp q))
    ∙ sym (get-insert prefix_total map.empty p hop q) ∙ e)

pub sole_match : (a d hop : ℕ) (answer : Option ℕ) → IsDepth d → IsLongestMatch (sole (prefix_of a d) hop) a answer → answer ≡ Some hop
sole_match a d hop None is_depth is = absurd (is d hop (record { within = is_depth; member = sole_here (prefix_of a d) hop }))
sole_match a d hop (Some h) is_depth is = ap Some (sym (sole_hop (prefix_of a d) (prefix_of a is.0) hop h is.1.member))
