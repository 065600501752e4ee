use Rattle.std.proofs.Common.{◌≡◌, ℕ, ◌++◌, length, drop, ◌∙◌, arith}
use Rattle.std.proofs.lemmas.List.{length-take}
use Rattle.mbuf.specs.Chain.{bytes_of}
use Rattle.ipv4.proofs.Heads.{verdict_of_front, frame_of_front}
use Rattle.ipv4.proofs.Fronts.{gathered_enough}
use Rattle.ipv4.proofs.chains.forward_gathered.Goals as goal

pub returns-clause-verdict : goal.returns-clause-verdict
returns-clause-verdict c =
    let frame = bytes_of c.args.chain.now in
    let enough =
    gathered_enough c.gather.new.head frame (omega (arith, c.min.ensures, c.len.ensures.value, c.gather.ensures.len, length-take {A = ℕ}))
    c.gather.ensures.front in
    c.forward_frame-verdict.ensures.verdict ∙ verdict_of_front c.args.table.now.members c.args.ports.now c.gather.new.head frame c.args.wire enough

pub returns-clause-frame : goal.returns-clause-frame
returns-clause-frame c =
    let frame = bytes_of c.args.chain.now in
    let enough =
    gathered_enough c.gather.new.head frame (omega (arith, c.min.ensures, c.len.ensures.value, c.gather.ensures.len, length-take {A = ℕ}))
    c.gather.ensures.front in
    let size : length c.forward_frame-verdict.new.frame ≡ length c.gather.new.head = omega arith in
    let written = c.forward_frame-verdict.ensures.frame in
    c.write_back.ensures.packet ∙ (λ k. written k ++ drop (size k) frame)
    ∙ frame_of_front c.args.table.now.members c.args.ports.now c.gather.new.head frame c.args.wire enough
