use Rattle.std.proofs.Common.{◌≡◌, ◌++◌, ◌∷◌, [], sym, ap, ◌∙◌, Some, option_map, rules}
use Rattle.std.proofs.lemmas.List.{map-append}
use Rattle.toml.specs.Data.{as_table}
use Rattle.toml.specs.View.{view, table_view}
use Rattle.settings.specs.Documents.{tables_view}
use Rattle.settings.proofs.EachOf.{each_of_more, each_of_none}
use Rattle.settings.proofs.tree.all_tables.Goals as goal

pub returns-in-None : goal.returns-in-None
returns-in-None c =
    sym (each_of_none as_table view c.args.values.now c.loop-value.value-index c.value-item.result c.loop-value-test.true
    (ap (λ v. as_table (view v)) (sym c.value-item.is) ∙ sym c.as_table.ensures ∙ ap (option_map (λ m. table_view m.now)) c.in-None.is))

pub loop-value-preserved : goal.loop-value-preserved
loop-value-preserved c =
    let pushed : c.push.new.self.items ≡ c.loop-value.tables.items ++ c.in-Some.table ∷ [] = search rules in
    let longer = ap tables_view pushed ∙ map-append (λ t. table_view t.now) c.loop-value.tables.items (c.in-Some.table ∷ []) in
    each_of_more as_table view c.args.values.now c.loop-value.value-index c.value-item.result (tables_view c.loop-value.tables.items)
    (table_view c.in-Some.table.now)
    c.loop-value-test.true c.loop-value.invariant (ap (λ v. as_table (view v)) (sym c.value-item.is) ∙ sym c.as_table.ensures
    ∙ ap (option_map (λ m. table_view m.now)) c.in-Some.is)
    ∙ ap Some (sym longer)
