use Rattle.geom.proofs.Words.{divided}
use Rattle.geom.proofs.geometry.Geometry.position_in.Goals as goal

pub returns : goal.returns
returns c = divided c.args.self c.args.word c.count_bits.result c.count_bits.ensures.value
