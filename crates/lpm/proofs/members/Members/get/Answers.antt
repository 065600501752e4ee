use Rattle.std.proofs.Common.{sym, ap, ◌∙◌}
use Rattle.std.specs.FinMap as map
use Rattle.lpm.proofs.Keys.{get-tree}
use Rattle.lpm.proofs.members.Members.get.Goals as goal

pub returns : goal.returns
returns c = c.copied.ensures ∙ c.get.ensures.value ∙ sym (get-tree c.self.inside.hops c.args.prefix)
    ∙ ap (λ m. map.get m c.args.prefix) c.self.view_is
