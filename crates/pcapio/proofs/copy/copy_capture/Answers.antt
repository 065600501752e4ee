use Rattle.std.proofs.Common.{ap}
use Rattle.mbuf.specs.Chain.{space_of}
use Rattle.pcapio.specs.Counted.{to_come, told}
use Rattle.pcapio.specs.Reader.{rest, order_of, resolution_of}
use Rattle.pcapio.specs.Writer.{text}
use Rattle.pcapio.proofs.Copies.{untold, not_opened, ended-captured, failed-captured}
use Rattle.pcapio.proofs.copy.copy_capture.Goals as goal

pub returns-in-Err-clause-begins : goal.returns-in-Err-clause-begins
returns-in-Err-clause-begins g c = untold _ _ (space_of c.args.chain.now)

pub returns-in-Err-clause-cause : goal.returns-in-Err-clause-cause
returns-in-Err-clause-cause g c = not_opened c.in-Err.fault _ _ _ c.in-Err.ensures.cause

pub returns-in-Err-open-clause-begins : goal.returns-in-Err-open-clause-begins
returns-in-Err-open-clause-begins g c =
    let same = ap (λ back. back.0) c.in-Err-open.ensures.cause in
    rw same (untold _ _ (space_of c.args.chain.now))

pub returns-clause-copied : goal.returns-clause-copied
returns-clause-copied g c =
    rw c.into_inner-3.ensures
    (ended-captured c.copy_and_flush-copied.result (space_of c.args.chain.now) (order_of c.in-Ok.reader) (resolution_of c.in-Ok.reader) c.resolution.result
    (to_come g.R.Read.remaining c.args.from) (rest g.R.Read.remaining c.in-Ok.reader) (told g.W.Write.contents c.args.to)
    (text g.W.Write.contents c.in-Ok-open.writer) (told g.W.Write.contents c.copy_and_flush-copied.new.writer.device)
    c.resolution.ensures c.in-Ok.ensures.header c.in-Ok.ensures.rest c.in-Ok-open.ensures.text c.copy_and_flush-copied.ensures.copied)

pub returns-clause-begins : goal.returns-clause-begins
returns-clause-begins g c =
    rw c.into_inner-3.ensures
    (failed-captured c.copy_and_flush-copied.result (space_of c.args.chain.now) (order_of c.in-Ok.reader) (resolution_of c.in-Ok.reader) c.resolution.result
    (to_come g.R.Read.remaining c.args.from) (rest g.R.Read.remaining c.in-Ok.reader) (told g.W.Write.contents c.args.to)
    (text g.W.Write.contents c.in-Ok-open.writer) (told g.W.Write.contents c.copy_and_flush-copied.new.writer.device)
    c.resolution.ensures c.in-Ok.ensures.header c.in-Ok.ensures.rest c.in-Ok-open.ensures.text c.copy_and_flush-copied.ensures.begins)
