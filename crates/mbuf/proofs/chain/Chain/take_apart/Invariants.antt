use Rattle.std.proofs.Common.{◌≡◌, ◌+◌, ◌≤◌, ◌++◌, length}
use Rattle.mbuf.specs.Links.{rest_of}
use Rattle.mbuf.specs.Chain.{fresh_of, singles}
use Rattle.mbuf.proofs.chain.Chain.take_apart.Given as goal

abbrev pub invariant-loop-rest : goal.invariant-loop-rest
invariant-loop-rest g l =
    (l.into ++ singles (rest_of l.rest) ≡ l.initial.into ++ singles (fresh_of l.fn.self)) × (length l.into + length (rest_of l.rest) ≤ g.row.N)

abbrev pub decreases-loop-rest : goal.decreases-loop-rest
decreases-loop-rest g l = length (rest_of l.rest)
