use Rattle.std.proofs.Common.{◌≡◌, ◌+◌, drop, length}
use Rattle.settings.specs.Documents.{tables_view}
use Rattle.settings.specs.Settings.{routed_by}
use Rattle.settings.specs.Shown.{routed_in}
use Rattle.settings.proofs.routes.add_all.Given as goal

abbrev pub invariant-loop-entry : goal.invariant-loop-entry
invariant-loop-entry l = record {
  rest : routed_by l.initial.table.bits l.initial.table.limit l.ports (routed_in l.table l.hops) (tables_view (drop l.entry-index l.entries))
      ≡ routed_by l.initial.table.bits l.initial.table.limit l.ports (routed_in l.initial.table l.initial.hops) (tables_view l.entries);
  bits : l.table.bits ≡ l.initial.table.bits;
  limit : l.table.limit ≡ l.initial.table.limit;
  count : length l.hops.items ≡ length l.initial.hops.items + l.entry-index;
}
