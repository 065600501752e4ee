use Rattle.pcapio.proofs.Records.{streamed}
use Rattle.pcapio.proofs.reader.Reader.body.Goals as goal

pub returns-in-Ok-clause-record : goal.returns-in-Ok-clause-record
returns-in-Ok-clause-record g c =
    streamed _ _ c.take_head-head.result _ _ _ _ _ _ _ c.take_head-head.ensures.pending c.pass.ensures.all c.pass.ensures.rest c.take_head-head.ensures.takes
    c.in-Ok.ensures.length c.in-Ok.ensures.whole
