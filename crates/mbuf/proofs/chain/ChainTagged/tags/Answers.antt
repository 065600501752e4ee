use Rattle.std.proofs.Common.{◌∙◌, ap, subst}
use Rattle.burst.specs.Numbers.{AreDistinct}
use Rattle.mbuf.specs.Chain.{numbers_of}
use Rattle.mbuf.specs.Links.{row}
use Rattle.mbuf.proofs.Chains.{numbers_fresh}
use Rattle.mbuf.proofs.chain.ChainTagged.tags.Goals as goal

pub returns-clause-distinct : goal.returns-clause-distinct
returns-clause-distinct c = subst AreDistinct (numbers_fresh (row c.self.inside.first.value) ∙ ap numbers_of c.self.view_is) c.self.invariant.0.distinct
