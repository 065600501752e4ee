use Rattle.std.proofs.Common.{arith, ap, List}
use Rattle.mbuf.specs.Buffer.{Buffer}
use Rattle.mbuf.specs.Chain.{space_of}
use Rattle.mbuf.specs.Links.{row}
use Rattle.mbuf.proofs.Chains.{space_few}
use Rattle.mbuf.proofs.chain.Chain.space.Goals as goal

pub space-requires : goal.space-requires
space-requires c =
    omega (arith, space_few (row c.self.inside.first.value) c.self.invariant.0, ap (λ (v : Buffer × List Buffer). space_of (row v)) c.deref.ensures)
