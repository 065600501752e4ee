-- The fields of a frame: where its IPv4 packet begins (IEEE 802.3, IEEE 802.1Q section 9.6), and those of the packet's
-- header (RFC 791, section 3.1).
use Rattle.std.specs.Prelude.{ℕ, ◌+◌, ◌-◌, ◌*◌, ◌/◌, ◌%◌, ◌==◌, Bool, List, take, drop, slice_index, slice_set}
use Rattle.std.specs.Prelude.{if◌then◌else◌}
use Rattle.ipv4.specs.Bytes.{word_at}

-- whether the type after the two addresses is that of an 802.1Q tag
abbrev pub is_tagged : List ℕ → Bool
is_tagged frame = word_at frame 12 == 0x8100

-- where the packet begins: after two addresses of 6 bytes, the tag of 4 bytes if there is one, and the type
abbrev pub offset_of : List ℕ → ℕ
offset_of frame = if is_tagged frame then 18 else 14

-- the type, in front of the packet
abbrev pub type_of : List ℕ → ℕ
type_of frame = word_at frame (offset_of frame - 2)

-- the packet, and what may follow it
abbrev pub packet_of : List ℕ → List ℕ
packet_of frame = drop (offset_of frame) frame

abbrev pub version_of : List ℕ → ℕ
version_of packet = slice_index packet 0 / 16

-- in bytes; the field is a number of 32-bit words
abbrev pub header_len : List ℕ → ℕ
header_len packet = 4 * (slice_index packet 0 % 16)

abbrev pub total_len : List ℕ → ℕ
total_len packet = word_at packet 2

abbrev pub time_to_live : List ℕ → ℕ
time_to_live packet = slice_index packet 8

abbrev pub destination_of : List ℕ → ℕ
destination_of packet = word_at packet 16 * 65536 + word_at packet 18

-- the header with its options
abbrev pub header_of : List ℕ → List ℕ
header_of packet = take (header_len packet) packet

-- what follows the header
abbrev pub body_of : List ℕ → List ℕ
body_of packet = drop (header_len packet) packet

abbrev pub with_time_to_live : ℕ → List ℕ → List ℕ
with_time_to_live time header = slice_set header 8 time

abbrev pub with_checksum : ℕ → List ℕ → List ℕ
with_checksum sum header = slice_set (slice_set header 10 (sum / 256)) 11 (sum % 256)
