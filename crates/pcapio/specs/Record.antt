-- A packet as it is in the header of its record, in its record, or in a chain.
use Rattle.std.specs.Prelude.{◌≡◌, ℕ, ◌≤◌, max, List, ◌++◌, length}
use Rattle.byteorder.specs.Endian.{little_bytes}
use Rattle.mbuf.specs.Buffer.{Buffer}
use Rattle.mbuf.specs.Chain.{bytes_of}
use Rattle.pcapio_laws.specs.Capture.{Packet, field, captured}
use Rattle.pcapio_laws.specs.declared.format.ByteOrder.{ByteOrder}
use Rattle.pcapio.specs.declared.record.Head.{Head}
use Rattle.pcapio.specs.declared.record.Record.{Record}

-- the bytes begin with the header of a record, with these fields
pub record IsHead (order : ByteOrder) (bytes : List ℕ) (head : Head) : Type 0 where
  pub whole : 16 ≤ length bytes
  pub small : head.captured ≤ 262144
  pub seconds : head.seconds ≡ field order 0 bytes
  pub fraction : head.fraction ≡ field order 4 bytes
  pub captured_length : head.captured ≡ captured order bytes
  pub wire : head.wire ≡ max (field order 12 bytes) (captured order bytes)

-- the packet of this header and these bytes
abbrev pub packet_of : Head → List ℕ → Packet
packet_of head bytes = record { seconds = head.seconds; fraction = head.fraction; wire = head.wire; bytes = bytes }

-- the 16 bytes of a record's header, with these fields
abbrev pub header_with : ℕ → ℕ → ℕ → ℕ → List ℕ
header_with seconds fraction wire captured =
    little_bytes 4 seconds ++ (little_bytes 4 fraction ++ (little_bytes 4 captured ++ little_bytes 4 wire))

-- a record as a packet
abbrev pub view : Record → Packet
view r = record { seconds = r.seconds; fraction = r.fraction; wire = r.wire; bytes = r.bytes.items }

-- the packet of these fields and bytes
abbrev pub packet_with : ℕ → ℕ → ℕ → List ℕ → Packet
packet_with seconds fraction wire bytes =
    record { seconds = seconds; fraction = fraction; wire = wire; bytes = bytes }

-- the packet whose bytes are in a chain
abbrev pub packet_in : ℕ → ℕ → ℕ → List Buffer → Packet
packet_in seconds fraction wire chain =
    record { seconds = seconds; fraction = fraction; wire = wire; bytes = bytes_of chain }
