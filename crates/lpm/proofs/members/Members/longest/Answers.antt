use Rattle.std.proofs.Common.{◌≡◌, Some, None, sym, ap, ◌∙◌, arith}
use Rattle.std.specs.FinMap as map
use Rattle.lpm.specs.Prefixes.{prefix_of}
use Rattle.lpm.specs.Match.{longest}
use Rattle.lpm.proofs.Longest.{longest-here, longest-shorter, longest-zero}
use Rattle.lpm.proofs.members.Members.longest.Goals as goal

pub returns-in-Some : goal.returns-in-Some
returns-in-Some c =
    let found : map.get c.args.self.now (prefix_of c.args.address c.loop-tried.tried) ≡ Some c.in-Some.hop =
    ap (map.get c.args.self.now) (sym c.of.ensures) ∙ sym c.get.ensures ∙ c.in-Some.is in
    c.route.ensures ∙ sym (longest-here c.args.self.now c.args.address c.loop-tried.tried _ c.loop-tried-test.true found)
    ∙ sym c.loop-tried.invariant.1

pub loop-tried-preserved : goal.loop-tried-preserved
loop-tried-preserved c =
    let missed : map.get c.args.self.now (prefix_of c.args.address c.loop-tried.tried) ≡ None =
    ap (map.get c.args.self.now) (sym c.of.ensures) ∙ sym c.get.ensures ∙ c.in_default.is in (
      omega arith,
      c.loop-tried.invariant.1 ∙ longest-shorter c.args.self.now c.args.address c.loop-tried.tried c.loop-tried-test.true
          missed,
    )

pub returns : goal.returns
returns c =
    let ended : c.loop-tried.tried ≡ 0 = omega arith in
    c.none.ensures ∙ sym (longest-zero c.args.self.now c.args.address) ∙ ap (longest c.args.self.now c.args.address) (sym ended)
    ∙ sym c.loop-tried.invariant.1

pub route-requires-clause-hop : goal.route-requires-clause-hop
route-requires-clause-hop c =
    let found : map.get c.args.self.now (prefix_of c.args.address c.loop-tried.tried) ≡ Some c.in-Some.hop =
    ap (map.get c.args.self.now) (sym c.of.ensures) ∙ sym c.get.ensures ∙ c.in-Some.is in
    (c.requires.members _ _ found).small
