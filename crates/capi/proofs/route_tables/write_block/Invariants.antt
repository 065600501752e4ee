use Rattle.std.proofs.Common.{◌≡◌, ◌+◌, ◌≤◌, length, take}
use Rattle.capi.specs.Tables.{hop_words}
use Rattle.capi.proofs.route_tables.write_block.Given as goal

abbrev pub invariant-loop-i : goal.invariant-loop-i
invariant-loop-i l = record {
  inside : l.i ≤ l.count;
  long : length l.hops ≡ length l.addresses;
  done : take (l.at + l.i) l.hops ≡ take (l.at + l.i) (hop_words l.fn.table.members l.addresses);
}
