use Rattle.std.proofs.Common.{◌≡◌}
use Rattle.capi.specs.PoolMembers.{all_numbers}
use Rattle.capi.proofs.pools.opening.numbers.Given as goal

abbrev pub invariant-loop-value : goal.invariant-loop-value
invariant-loop-value l = l.made.items ≡ all_numbers l.value
