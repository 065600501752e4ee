use Rattle.std.proofs.KnownBytes.{Keeps-refl}
use Rattle.pcapio.specs.WriteBuffer.{waiting}
use Rattle.pcapio.proofs.Begins.{begins-more}
use Rattle.pcapio.proofs.writer.Writer.put_frame.Goals as goal

pub returns-in-Some-clause-begins : goal.returns-in-Some-clause-begins
returns-in-Some-clause-begins g c = begins-more _ _ _ (waiting c.args.self.now.behind, Keeps-refl _)

pub returns-in-Err-clause-begins : goal.returns-in-Err-clause-begins
returns-in-Err-clause-begins g c =
    let b = rw c.header_of_frame-head.ensures at c.in-Err.ensures.begins in
    rw c.give_up.ensures.device b
