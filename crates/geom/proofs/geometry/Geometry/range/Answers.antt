use Rattle.std.proofs.Common.{◌<◌, sym, subst}
use Rattle.geom.proofs.Words.{one_shifted, range_some}
use Rattle.geom.proofs.geometry.Geometry.range.Goals as goal

pub returns-clause-value : goal.returns-clause-value
returns-clause-value c = one_shifted c.args.self c.count_bits.result c.count_bits.ensures.extent c.count_bits.ensures.value

pub returns-clause-some : goal.returns-clause-some
returns-clause-some c =
    let said = c.count_bits.ensures in
    subst (λ n. 0 < n) (sym (one_shifted c.args.self c.count_bits.result said.extent said.value)) (range_some c.args.self)
