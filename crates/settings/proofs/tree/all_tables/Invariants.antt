use Rattle.std.proofs.Common.{◌≡◌, take, map, Some}
use Rattle.toml.specs.Data.{as_table}
use Rattle.toml.specs.View.{view}
use Rattle.settings.specs.Lists.{each_of}
use Rattle.settings.specs.Documents.{tables_view}
use Rattle.settings.proofs.tree.all_tables.Given as goal

abbrev pub invariant-loop-value : goal.invariant-loop-value
invariant-loop-value l = each_of as_table (map view (take l.value-index l.values)) ≡ Some (tables_view l.tables.items)
