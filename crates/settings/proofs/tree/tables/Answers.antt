use Rattle.std.proofs.Common.{◌≡◌, List, [], ◌∷◌, map, refl, sym, ap, ◌∙◌, option_map, option_and_then, IfOk, subst}
use Rattle.toml.specs.Data.{Data, as_table}
use Rattle.toml.specs.View.{view, items_of}
use Rattle.settings.specs.Lists.{each_of}
use Rattle.settings.specs.Documents.{list_of, tables_of, tables_view}
use Rattle.settings.proofs.tree.tables.Goals as goal

list_of-items_of : (ds : List Data) → list_of (items_of ds) ≡ ds
list_of-items_of [] = refl
list_of-items_of (d ∷ ds) = ap (λ es. d ∷ es) (list_of-items_of ds)

pub returns-in-Some : goal.returns-in-Some
returns-in-Some c =
    let values = c.in-Some.array.now.items in
    let same : each_of as_table (map view c.as_slice.result.now) ≡ tables_of (view c.args.value.now) =
    ap (λ vs. each_of as_table (map view vs)) c.as_slice.ensures.value
    ∙ ap (each_of as_table) (sym (list_of-items_of (map view values)))
    ∙ ap (option_and_then (λ items. each_of as_table (list_of items))) c.in-Some.ensures in
    subst (λ o. IfOk c.all_tables.result (λ tables. option_map (λ v. tables_view v.items) tables ≡ o)) same c.all_tables.ensures
