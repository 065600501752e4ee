use Rattle.std.proofs.Common.{ℕ, arith}
use Rattle.std.proofs.lemmas.List.{length-take, length-drop}
use Rattle.pcapio.proofs.Windows.{stepped}
use Rattle.pcapio.proofs.read_buffer.ReadBuffer.consume.Goals as goal

pub returns : goal.returns
returns c =
    let w = c.args.self.now in
    stepped w.buffer.items w.start w.end c.args.count (omega (arith, length-take {A = ℕ}, length-drop {A = ℕ}))
