use Rattle.std.proofs.Common.{ap}
use Rattle.std.proofs.KnownBytes.{Keeps-refl}
use Rattle.pcapio.specs.ReaderState.{head_of}
use Rattle.pcapio.proofs.Records.{head-ahead}
use Rattle.pcapio.proofs.reader.Reader.head.Goals as goal

pub returns-in-Pending-clause-head : goal.returns-in-Pending-clause-head
returns-in-Pending-clause-head g c =
    let r = c.args.self.now in
    head-ahead r.order _ _ _ c.in-Pending.head (Keeps-refl _) (r.pending c.in-Pending.head (ap head_of c.in-Pending.is))

pub returns-in-Pending-clause-small : goal.returns-in-Pending-clause-small
returns-in-Pending-clause-small g c =
    let r = c.args.self.now in
    (r.pending c.in-Pending.head (ap head_of c.in-Pending.is)).small
