use Rattle.std.proofs.Common.{arith}
use Rattle.ipv4.specs.Fields.{header_len}
use Rattle.ipv4.proofs.Renewing.{renewed-written}
use Rattle.ipv4.proofs.rewrite.renew.Goals as goal

pub returns : goal.returns
returns c =
    let packet = c.args.packet.now in
    let right = c.requires in
    renewed-written packet (header_len packet) c.lowered_checksum-checksum.result (omega (arith, right.least)) right.whole c.lowered_checksum-checksum.ensures
