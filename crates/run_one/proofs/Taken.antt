-- What a reader found, from the contracts of a capture reader's calls.
use Rattle.std.proofs.Common.{◌≤◌, ℕ, List, length, Option, ap, arith, length-drop}
use Rattle.pcapio_laws.specs.Capture.{Packet}
use Rattle.pcapio_laws.specs.declared.format.ByteOrder.{ByteOrder}
use Rattle.pcapio.specs.Reader.{TakesRecord}

-- its length on the wire was at least its captured length
pub wire_is : (order : ByteOrder) (a c : Option (List ℕ)) (packet : Packet) → TakesRecord order a c packet → length packet.bytes ≤ packet.wire
wire_is order a c packet t =
    let text = t.0 in
    omega (arith, ap length t.2.bytes, length-drop 16 text, t.2.whole, t.2.wire)
