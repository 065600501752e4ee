use Rattle.std.proofs.Common.{◌≡◌, ◌<◌}
use Rattle.fabric.specs.Views.{IsKept}
use Rattle.pool.specs.Locals.{IsLocalOf, SameCache, SameRing, view_of}
use Rattle.capi.proofs.pools.tries.receive.Given as goal

abbrev pub invariant-loop-tries : goal.invariant-loop-tries
invariant-loop-tries l = record {
  local : IsLocalOf l.f l.local;
  ring : SameRing l.fn.local l.local;
  cache : SameCache l.fn.local l.local;
  array : l.into ≡ l.fn.into;
  kept : IsKept (view_of l.fn.local) (view_of l.local);
  some : 0 < l.tries.left;
}

abbrev pub decreases-loop-tries : goal.decreases-loop-tries
decreases-loop-tries l = l.tries.left
