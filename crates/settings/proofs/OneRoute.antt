-- How many groups the first route of a table needs.
use Rattle.std.proofs.Common.{◌≡◌, ℕ, ◌+◌, Option, Some, None, List, [], ◌∷◌, length, map, Bool, true, false, cond, nat_lt, if◌then◌else◌, refl, sym, ap, ◌∙◌}
use Rattle.std.proofs.Common.{arith}
use Rattle.std.specs.Ordering.{nat_cmp}
use Rattle.std.specs.Cmp.{IsTotalOrder, nat_cmp_total, on_total, then_total}
use Rattle.std.specs.FinMap as fin_map
use Rattle.std.specs.FinMap.{entries, entries-insert, len-empty, len-entries}
use Rattle.std.specs.FinSet as fin_set
use Rattle.lpm.specs.declared.prefix.Prefix.{Prefix}
use Rattle.lpm.specs.Prefixes.{prefix_cmp, first_bits, prefix_of}
use Rattle.lpm.specs.Groups.{deeper_firsts, firsts_of, groups_of}
use Rattle.settings.specs.declared.route.Route.{Route}
use Rattle.settings.specs.Routing.{Routed, no_routes, with_one, fitting}

prefix_total : IsTotalOrder prefix_cmp
prefix_total = then_total (on_total (λ (p : Prefix). p.address) nat_cmp_total) (on_total (λ (p : Prefix). p.depth) nat_cmp_total)

nothing : {A : Type 0} (xs : List A) → length xs ≡ 0 → xs ≡ []
nothing [] e = refl
nothing (x ∷ xs) e = absurd (omega arith)

no_entries : entries (fin_map.empty {X = ℕ} {R = prefix_cmp}) ≡ []
no_entries = nothing _ (sym (len-entries fin_map.empty) ∙ len-empty prefix_cmp ℕ)

sole_key : (p : Prefix) (hop : ℕ) → fin_map.keys (fin_map.insert (fin_map.empty {R = prefix_cmp}) p hop) ≡ p ∷ []
sole_key p hop =
    ap (map (λ e. e.0)) (entries-insert prefix_total fin_map.empty p hop ∙ ap (fin_map.put prefix_cmp p hop) no_entries)

counted : (deep : Bool) (bits : ℕ) (p : Prefix)
    → fin_set.len (fin_set.from_list {R = nat_cmp} (map (λ (q : Prefix). first_bits q.address bits) (cond deep (p ∷ []) []))) ≡ cond deep 1 0
counted true bits p =
    fin_set.len-insert nat_cmp_total fin_set.empty (first_bits p.address bits)
    ∙ ap (λ b. cond b (fin_set.len (fin_set.empty {R = nat_cmp})) (fin_set.len (fin_set.empty {R = nat_cmp}) + 1))
    (fin_set.contains-empty nat_cmp (first_bits p.address bits))
    ∙ ap (λ n. n + 1) (fin_set.len-empty nat_cmp)
counted false bits p = fin_set.len-empty nat_cmp

-- one if it is deeper than the first level, otherwise none
groups_of-sole : (bits : ℕ) (p : Prefix) (hop : ℕ)
    → groups_of bits (fin_map.insert fin_map.empty p hop) ≡ cond (nat_lt bits p.depth) 1 0
unfolding deeper_firsts
groups_of-sole bits p hop =
    ap (λ ps. fin_set.len (fin_set.from_list {R = nat_cmp} (firsts_of bits ps))) (sole_key p hop) ∙ counted (nat_lt bits p.depth) bits p

-- the first route, whatever is done with it next
pub first_route : {A : Type 0} (bits groups : ℕ) (route : Route) (next : Option Routed → A)
    → next (fitting bits groups no_routes route)
    ≡ next (if nat_lt groups (cond (nat_lt bits route.depth) 1 0) then None else Some (with_one no_routes route))
first_route bits groups route next =
    ap (λ n. next (if nat_lt groups n then None else Some (with_one no_routes route)))
    (groups_of-sole bits (prefix_of route.address route.depth) 0)
