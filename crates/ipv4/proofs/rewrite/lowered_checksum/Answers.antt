use Rattle.std.proofs.Common.{◌≡◌, ◌+◌, ◌%◌, arith, sym, ◌∙◌}
use Rattle.ipv4.specs.Bytes.{word_at}
use Rattle.ipv4.specs.Fields.{header_len}
use Rattle.ipv4.proofs.Renewing.{checksum_of_packet}
use Rattle.ipv4.proofs.rewrite.lowered_checksum.Goals.{then-sum-lt65535, else-sum-lt65535}
use Rattle.ipv4.proofs.rewrite.lowered_checksum.Goals as goal

pub returns : goal.returns
returns c =
    let packet = c.args.packet.now in
    let right = c.requires in
    let is = checksum_of_packet packet (header_len packet) (omega (arith, right.least)) right.whole (λ i. omega (arith, c.type_inv.packet i)) right.summed
    (omega (arith, right.version)) (omega (arith, right.alive)) in
    let carried : c.if-sum-lt65535.result ≡ (word_at packet 10 + 256) % 65535 =
    elim c.if-sum-lt65535.branch [
      | then-sum-lt65535 w ↦ omega (arith, w.result-is, w.if-sum-lt65535, c.word_at.ensures, c.from-sum.ensures)
      | else-sum-lt65535 w ↦ omega (arith, w.result-is, w.if-sum-lt65535, c.word_at.ensures, c.from-sum.ensures)
    ] in
    carried ∙ sym is
