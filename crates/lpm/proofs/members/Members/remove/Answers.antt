use Rattle.std.proofs.Common.{is_some, sym, ap, ◌∙◌}
use Rattle.std.specs.FinMap as map
use Rattle.lpm.proofs.Keys.{get-tree, remove-tree}
use Rattle.lpm.proofs.members.Members.remove.Goals as goal

pub returns-clause-ok : goal.returns-clause-ok
returns-clause-ok c =
    remove-tree c.self.inside.hops c.remove.new.self c.args.prefix c.remove.ensures.updates
    ∙ ap (λ m. map.remove m c.args.prefix) c.self.view_is

pub returns-in_default-clause-missing : goal.returns-in_default-clause-missing
returns-in_default-clause-missing c =
    sym (ap (λ m. map.get m c.args.prefix) c.self.view_is) ∙ get-tree c.self.inside.hops c.args.prefix ∙ sym c.remove.ensures.value
    ∙ c.in_default.is

pub returns-clause-was : goal.returns-clause-was
returns-clause-was c =
    ap is_some (sym (ap (λ m. map.get m c.args.prefix) c.self.view_is) ∙ get-tree c.self.inside.hops c.args.prefix
    ∙ sym c.remove.ensures.value ∙ c.in-Some.is)
