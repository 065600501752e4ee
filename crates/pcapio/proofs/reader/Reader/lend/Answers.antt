use Rattle.std.proofs.Common.{refl, sym, ap}
use Rattle.pcapio.specs.ReaderState.{captured_of}
use Rattle.pcapio.proofs.Lent.{left_so, taken_lent}
use Rattle.pcapio.proofs.reader.Reader.lend.Goals as goal

pub returns : goal.returns
returns g c =
    let r = c.args.self.now in
    let head = c.in-Pending.head in (
      (refl, λ w. left_so r head.captured w _ (sym (ap captured_of c.in-Pending.is))),
      record {
        writes_back = tt;
        «record» = λ written same. taken_lent g.R.Read.remaining r head c.lend.result.now written c.in-Pending.is c.requires c.lend.ensures.value same;
      },
    )
