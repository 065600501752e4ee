use Rattle.std.proofs.Common.{ℕ, ◌∙◌, arith}
use Rattle.std.proofs.lemmas.List.{length-take}
use Rattle.mbuf.specs.Chain.{bytes_of}
use Rattle.ipv4.proofs.Heads.{verdict_of_front}
use Rattle.ipv4.proofs.Fronts.{gathered_enough}
use Rattle.ipv4.proofs.chains.verdict_of_gathered.Goals as goal

pub returns : goal.returns
returns c =
    let frame = bytes_of c.args.chain.now in
    let enough =
    gathered_enough c.gather.new.head frame (omega (arith, c.min.ensures, c.len.ensures.value, c.gather.ensures.len, length-take {A = ℕ}))
    c.gather.ensures.front in
    c.verdict_of_frame.ensures ∙ verdict_of_front c.args.table.now.members c.args.ports.now c.gather.new.head frame c.args.wire enough
