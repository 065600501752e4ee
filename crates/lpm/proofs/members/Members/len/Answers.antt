use Rattle.std.proofs.Common.{sym, ap, ◌∙◌}
use Rattle.std.specs.FinMap as map
use Rattle.lpm.proofs.Counts.{count}
use Rattle.lpm.proofs.members.Members.len.Goals as goal

pub returns : goal.returns
returns c = c.len.ensures.len ∙ sym (count c.self.inside.hops.entries c.len.ensures.ordered) ∙ ap map.len c.self.view_is
