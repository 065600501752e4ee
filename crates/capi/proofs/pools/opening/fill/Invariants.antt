use Rattle.std.proofs.Common.{◌*◌, take}
use Rattle.fabric.specs.Hands.{IsHandOf, view}
use Rattle.capi.specs.PoolOpenings.{ArePut}
use Rattle.capi.proofs.pools.opening.fill.Given as goal

abbrev pub invariant-loop-i : goal.invariant-loop-i
invariant-loop-i l = record {
  hand : IsHandOf l.f l.hand;
  put : ArePut (view l.hand).party.settled (take (4096 * l.i) l.items);
}
