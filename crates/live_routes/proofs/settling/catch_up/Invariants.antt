use Rattle.std.proofs.Common.{◌≡◌, fold, length}
use Rattle.live_routes.specs.Changes.{applied}
use Rattle.live_routes.proofs.settling.catch_up.Given as goal

abbrev pub invariant-loop-change : goal.invariant-loop-change
invariant-loop-change g l = fold applied l.fib l.log.items ≡ fold applied l.fn.fib l.fn.log.items

abbrev pub decreases-loop-change : goal.decreases-loop-change
decreases-loop-change g l = length l.log.items
