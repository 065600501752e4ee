use Rattle.std.proofs.Common.{arith}
use Rattle.geom.proofs.Words.{set_positions}
use Rattle.geom.proofs.geometry.Geometry.with_positions.Goals as goal

pub invariant_of-result : goal.invariant_of-result
invariant_of-result c =
    set_positions _ c.args.last c.args.count_bits c.self.invariant (omega (arith, c.if-count_bits-eq0.false)) c.if-count_bits-gt63.false
    c.if-last-count_bits.false
