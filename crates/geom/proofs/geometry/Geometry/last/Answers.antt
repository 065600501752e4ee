use Rattle.std.proofs.Common.{◌<◌, ◌^◌, subst}
use Rattle.geom.specs.Extent.{Extent}
use Rattle.geom.proofs.Words.{last_small}
use Rattle.geom.proofs.geometry.Geometry.last.Goals as goal

pub returns-clause-small : goal.returns-clause-small
returns-clause-small c = subst (λ (e : Extent). e.last < 2 ^ 63) c.self.view_is (last_small _ c.self.invariant)
