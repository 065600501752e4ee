use Rattle.std.proofs.Common.{ap}
use Rattle.pcapio.specs.Record.{IsHead}
use Rattle.pcapio.specs.ReaderState.{head_of}
use Rattle.pcapio.specs.ReadBuffer.{items}
use Rattle.pcapio.proofs.Records.{whole_record, torn_record}
use Rattle.pcapio.proofs.reader.Reader.take_head.Goals as goal

pub returns-clause-takes : goal.returns-clause-takes
returns-clause-takes g c bytes after len took =
    let r = c.args.self.now in
    let head = c.in-Pending.head in
    let h : IsHead r.order (items r.ahead) head = r.pending head (ap head_of c.in-Pending.is) in
    whole_record r.order after _ (items r.ahead) _ bytes head h c.consume.ensures took len

pub returns-clause-torn : goal.returns-clause-torn
returns-clause-torn g c short =
    let r = c.args.self.now in
    let head = c.in-Pending.head in
    let h : IsHead r.order (items r.ahead) head = r.pending head (ap head_of c.in-Pending.is) in
    torn_record r.order _ (items r.ahead) _ head h c.consume.ensures short
