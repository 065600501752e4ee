use Rattle.geom.proofs.Words.{packed_by}
use Rattle.geom.proofs.geometry.Geometry.word.Goals as goal

pub returns-clause-value : goal.returns-clause-value
returns-clause-value c = packed_by c.args.self c.args.position c.args.reserved c.count_bits.result c.count_bits.ensures.value
