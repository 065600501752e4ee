use Rattle.std.proofs.Common.{ap, ◌∙◌}
use Rattle.std.specs.FinMap as map
use Rattle.lpm.proofs.Keys.{insert-tree}
use Rattle.lpm.proofs.members.Members.insert.Goals as goal

pub returns-clause-ok : goal.returns-clause-ok
returns-clause-ok c =
    insert-tree c.self.inside.hops c.insert.new.self c.args.prefix c.args.hop c.in-Ok.ensures.updates
    ∙ ap (λ m. map.insert m c.args.prefix c.args.hop) c.self.view_is
