use Rattle.pcapio.proofs.Records.{kept-next}
use Rattle.pcapio.proofs.reader.Reader.next.Goals as goal

pub returns-clause-record : goal.returns-clause-record
returns-clause-record g c =
    kept-next _ _ _ _ _ c.in_ok-found.found c.in_ok-head.ensures.file.0 c.in_ok-head.ensures.rest c.in_ok-found.ensures.record
