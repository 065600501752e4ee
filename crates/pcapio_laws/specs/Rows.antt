-- Worked rows: files and what they are. Each line of the format's tables has one, and each order of two tests.
use Rattle.std.specs.Prelude.{ℕ, ◌+◌, List, [], ◌∷◌, ◌++◌, take, drop, false, Bool}
use Rattle.pcapio_laws.specs.declared.format.ByteOrder.{ByteOrder}
use Rattle.pcapio_laws.specs.declared.format.ByteOrder.TheVariants.{Little, Big}
use Rattle.pcapio_laws.specs.declared.format.Resolution.{Resolution}
use Rattle.pcapio_laws.specs.declared.format.Resolution.TheVariants.{Micro, Nano}
use Rattle.pcapio_laws.specs.Capture.{Packet, Case, Captured}

-- a little-endian microsecond capture of its header alone
abbrev pub header_alone : List ℕ
header_alone =
    212 ∷ 195 ∷ 178 ∷ 161 ∷ 2 ∷ 0 ∷ 4 ∷ 0 ∷ 0 ∷ 0 ∷ 0 ∷ 0 ∷ 0 ∷ 0 ∷ 0 ∷ 0 ∷ 0 ∷ 0 ∷ 4 ∷ 0 ∷ 1 ∷ 0 ∷ 0 ∷ 0 ∷ []

-- the header of a big-endian nanosecond capture
abbrev pub big_header : List ℕ
big_header =
    161 ∷ 178 ∷ 60 ∷ 77 ∷ 0 ∷ 2 ∷ 0 ∷ 4 ∷ 0 ∷ 0 ∷ 0 ∷ 0 ∷ 0 ∷ 0 ∷ 0 ∷ 0 ∷ 0 ∷ 4 ∷ 0 ∷ 0 ∷ 0 ∷ 0 ∷ 0 ∷ 1 ∷ []

-- the 34 bytes of a frame
abbrev pub frame : List ℕ
frame =
    0 ∷ 0 ∷ 0 ∷ 0 ∷ 0 ∷ 0 ∷ 0 ∷ 0 ∷ 0 ∷ 0 ∷ 0 ∷ 0 ∷ 8 ∷ 0 ∷ 69 ∷ 0 ∷ 0 ∷
    20 ∷ 0 ∷ 0 ∷ 0 ∷ 0 ∷ 64 ∷ 17 ∷ 100 ∷ 213 ∷ 10 ∷ 0 ∷ 0 ∷ 1 ∷ 10 ∷ 1 ∷ 2 ∷ 3 ∷ []

-- a capture of 100 bytes: a record of 34 bytes, and one that ends after its header and 10 of 34 bytes
abbrev pub torn_file : List ℕ
torn_file =
    big_header
    ++ (0 ∷ 0 ∷ 0 ∷ 1 ∷ 0 ∷ 0 ∷ 0 ∷ 5 ∷ 0 ∷ 0 ∷ 0 ∷ 34 ∷ 0 ∷ 0 ∷ 0 ∷ 34 ∷ [])
    ++ frame
    ++ (0 ∷ 0 ∷ 0 ∷ 2 ∷ 0 ∷ 0 ∷ 0 ∷ 7 ∷ 0 ∷ 0 ∷ 0 ∷ 34 ∷ 0 ∷ 0 ∷ 0 ∷ 34 ∷ [])
    ++ (0 ∷ 0 ∷ 0 ∷ 0 ∷ 0 ∷ 0 ∷ 0 ∷ 0 ∷ 0 ∷ 0 ∷ [])

-- its whole record
abbrev pub first_packet : Packet
first_packet = record { seconds = 1; fraction = 5; wire = 34; bytes = frame }

-- a big-endian nanosecond capture of these packets
abbrev pub nanosecond : List Packet → Bool → Case
nanosecond packets torn = Captured (record { order = Big; resolution = Nano; packets = packets; torn = torn })

-- a whole capture without a packet
abbrev pub empty_file : ByteOrder → Resolution → Case
empty_file order resolution = Captured (record { order = order; resolution = resolution; packets = []; torn = false })

-- with a different byte at index i
abbrev pub with_byte : ℕ → ℕ → List ℕ → List ℕ
with_byte i byte bytes = take i bytes ++ byte ∷ drop (i + 1) bytes

-- the header of a record with these three bytes of captured length, and this original length
abbrev pub record_header_of : ℕ → ℕ → ℕ → ℕ → List ℕ
record_header_of low middle high original =
    9 ∷ 0 ∷ 0 ∷ 0 ∷ 8 ∷ 0 ∷ 0 ∷ 0 ∷ low ∷ middle ∷ high ∷ 0 ∷ original ∷ 0 ∷ 0 ∷ 0 ∷ []

-- a record of one byte, with a length on the wire of 0
abbrev pub one_byte_record : ℕ → List ℕ
one_byte_record byte = record_header_of 1 0 0 0 ++ (byte ∷ [])

-- a little-endian microsecond capture with these bytes after the header
abbrev pub behind_header : List ℕ → List ℕ
behind_header bytes = header_alone ++ bytes

-- a little-endian microsecond capture of these packets
abbrev pub microsecond : List Packet → Bool → Case
microsecond packets torn = Captured (record { order = Little; resolution = Micro; packets = packets; torn = torn })

-- a whole capture of a packet of 0 bytes, or of 1, with the greater of both lengths
abbrev pub small_file : ℕ → List ℕ → Case
small_file wire bytes = microsecond (record { seconds = 9; fraction = 8; wire = wire; bytes = bytes } ∷ []) false
