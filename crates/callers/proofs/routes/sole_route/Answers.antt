use Rattle.std.proofs.Common.{ap, ◌∙◌, subst}
use Rattle.std.specs.FinMap as map
use Rattle.lpm.specs.Prefixes.{prefix_of}
use Rattle.lpm.specs.Match.{IsLongestMatch}
use Rattle.callers.proofs.Sole.{sole_match}
use Rattle.callers.proofs.routes.sole_route.Goals as goal

pub returns : goal.returns
returns c =
    let prefix = prefix_of c.args.addr c.args.depth in
    sole_match c.args.addr c.args.depth c.args.hop c.lookup.result c.requires.depth
    (subst (λ m. IsLongestMatch m c.args.addr c.lookup.result)
    (c.in_ok-add.ensures.ok.members ∙ ap (λ m. map.insert m prefix c.args.hop) c.in-Ok.ensures.empty) c.lookup.ensures.longest)
