use Rattle.std.proofs.Common.{◌≡◌, ◌-◌, ◌≤◌, length, take}
use Rattle.capi.specs.Tables.{hop_words}
use Rattle.capi.proofs.route_tables.write_hops.Given as goal

abbrev pub invariant-loop-at : goal.invariant-loop-at
invariant-loop-at l = record {
  inside : l.at ≤ length l.addresses;
  long : length l.hops ≡ length l.addresses;
  done : take l.at l.hops ≡ take l.at (hop_words l.fn.table.members l.addresses);
}

abbrev pub decreases-loop-at : goal.decreases-loop-at
decreases-loop-at l = length l.addresses - l.at
