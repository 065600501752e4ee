use Rattle.std.proofs.Common.{◌<◌, sym, subst}
use Rattle.std.proofs.lemmas.Nat.{mod_below}
use Rattle.geom.specs.Extent.{range_of}
use Rattle.geom.proofs.Words.{masked}
use Rattle.geom.proofs.geometry.Geometry.reserved_in.Goals as goal

pub returns-clause-value : goal.returns-clause-value
returns-clause-value c = masked c.args.self c.args.word c.range.result c.range.ensures.value

pub returns-clause-range : goal.returns-clause-range
returns-clause-range c =
    let said = c.range.ensures in
    subst (λ n. n < range_of c.args.self) (sym (masked c.args.self c.args.word c.range.result said.value))
    (mod_below c.args.word (range_of c.args.self) (subst (λ n. 0 < n) said.value said.some))
