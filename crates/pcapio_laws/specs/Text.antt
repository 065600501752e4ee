-- How packets are written: little-endian, in one Ethernet file.
use Rattle.std.specs.Prelude.{ℕ, ◌<◌, ◌≤◌, ◌^◌, List, ◌++◌, length, false}
use Rattle.std.specs.List.{flat_map}
use Rattle.byteorder.specs.Endian.{little_bytes}
use Rattle.pcapio_laws.specs.Capture.{Packet, Capture, magic_of}
use Rattle.pcapio_laws.specs.declared.format.ByteOrder.TheVariants.{Little}
use Rattle.pcapio_laws.specs.declared.format.Resolution.{Resolution}

-- the 24 bytes of the file header: version 2.4, zone 0, sigfigs 0, snaplen 262144, link type 1
abbrev pub file_header : Resolution → List ℕ
file_header resolution =
    little_bytes 4 (magic_of resolution) ++ (little_bytes 2 2 ++ (little_bytes 2 4 ++ (little_bytes 4 0
    ++ (little_bytes 4 0 ++ (little_bytes 4 262144 ++ little_bytes 4 1)))))

-- the 16 bytes before those of a packet
abbrev pub record_header : Packet → List ℕ
record_header packet =
    little_bytes 4 packet.seconds ++ (little_bytes 4 packet.fraction
    ++ (little_bytes 4 (length packet.bytes) ++ little_bytes 4 packet.wire))

abbrev pub record_text : Packet → List ℕ
record_text packet = record_header packet ++ packet.bytes

-- the file of these packets
abbrev pub file_text : Resolution → List Packet → List ℕ
file_text resolution packets = file_header resolution ++ flat_map record_text packets

-- the whole little-endian capture of these packets
abbrev pub whole_file : Resolution → List Packet → Capture
whole_file resolution packets = record { order = Little; resolution = resolution; packets = packets; torn = false }

-- the fields of a record of a file
pub record IsPacket (packet : Packet) : Type 0 where
  pub seconds : packet.seconds < 2 ^ 32
  pub fraction : packet.fraction < 2 ^ 32
  pub wire : packet.wire < 2 ^ 32
  pub small : length packet.bytes ≤ 262144
  pub captured : length packet.bytes ≤ packet.wire
