use Rattle.std.proofs.KnownBytes.{Keeps-refl}
use Rattle.pcapio.specs.WriteBuffer.{waiting}
use Rattle.pcapio.proofs.writer.Writer.flush.Goals as goal

pub returns-in-Some-clause-begins : goal.returns-in-Some-clause-begins
returns-in-Some-clause-begins g c = (waiting c.args.self.now.behind, Keeps-refl _)
