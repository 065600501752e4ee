-- A capture: the pcap file format in its own terms (pcap-savefile(5); draft-ietf-opsawg-pcap, "File Header" and
-- "Packet Record"). Every field is named by its offset; all numbers are in the byte order of the file's writer.
use Rattle.std.specs.Prelude.{◌≡◌, ℕ, ◌+◌, ◌<◌, ◌≤◌, ◌%◌, ◌^◌, max, List, [], ◌∷◌, ◌++◌, length, take, drop}
use Rattle.std.specs.Prelude.{Bool, true, false, ◌⊎◌}
use Rattle.byteorder.specs.Endian.{little_number, big_number, little_bytes, big_bytes}
use Rattle.pcapio_laws.specs.declared.fault.CapFault.{CapFault}
use Rattle.pcapio_laws.specs.declared.fault.CapFault.TheVariants.{NotPcap, BadVersion, BadLink, BadRecord}
use Rattle.pcapio_laws.specs.declared.format.ByteOrder.{ByteOrder}
use Rattle.pcapio_laws.specs.declared.format.ByteOrder.TheVariants.{Little, Big}
use Rattle.pcapio_laws.specs.declared.format.Resolution.{Resolution}
use Rattle.pcapio_laws.specs.declared.format.Resolution.TheVariants.{Micro, Nano}

-- the number in the first n bytes
abbrev pub number_in : ByteOrder → ℕ → List ℕ → ℕ
number_in Little n bytes = little_number n bytes
number_in Big n bytes = big_number n bytes

-- the n bytes of a number
abbrev pub bytes_in : ByteOrder → ℕ → ℕ → List ℕ
bytes_in Little n x = little_bytes n x
bytes_in Big n x = big_bytes n x

-- the field of 4 bytes at an offset
abbrev pub field : ByteOrder → ℕ → List ℕ → ℕ
field order offset bytes = number_in order 4 (drop offset bytes)

-- a field of 2 bytes
abbrev pub short_field : ByteOrder → ℕ → List ℕ → ℕ
short_field order offset bytes = number_in order 2 (drop offset bytes)

-- "Magic Number": 0xa1b2c3d4, time stamps in microseconds; 0xa1b23c4d, in nanoseconds
abbrev pub magic_of : Resolution → ℕ
magic_of Micro = 2712847316
magic_of Nano = 2712812621

-- the byte order in which the first four bytes are one of the two magics
abbrev pub HasMagic : List ℕ → ByteOrder → Resolution → Type 0
HasMagic bytes order resolution = take 4 bytes ≡ bytes_in order 4 (magic_of resolution)

abbrev pub HasNoMagic : List ℕ → Type 0
HasNoMagic bytes = (order : ByteOrder) (resolution : Resolution) → ¬ HasMagic bytes order resolution

-- "Major Version" 2, "Minor Version" 4
abbrev pub HasVersion : List ℕ → ByteOrder → Type 0
HasVersion bytes order = (short_field order 4 bytes ≡ 2) × (short_field order 6 bytes ≡ 4)

-- "LinkType", its low 16 bits: 1, Ethernet
abbrev pub HasLink : List ℕ → ByteOrder → Type 0
HasLink bytes order = field order 20 bytes % 2 ^ 16 ≡ 1

-- the file header, of 24 bytes
pub record HasHeader (bytes : List ℕ) (order : ByteOrder) (resolution : Resolution) : Type 0 where
  pub whole : 24 ≤ length bytes
  pub magic : HasMagic bytes order resolution
  pub version : HasVersion bytes order
  pub link : HasLink bytes order

-- a packet: its time, its length on the wire, and the captured bytes
pub record Packet : Type 0 where
  pub seconds : ℕ
  pub fraction : ℕ
  pub wire : ℕ
  pub bytes : List ℕ

-- "Captured Packet Length"
abbrev pub captured : ByteOrder → List ℕ → ℕ
captured order text = field order 8 text

-- the bytes of a packet record: 16 bytes of header, and the captured bytes. The length on the wire is at least the
-- captured length ("Original Packet Length")
pub record IsRecord (order : ByteOrder) (text : List ℕ) (packet : Packet) : Type 0 where
  pub whole : length text ≡ 16 + captured order text
  pub small : captured order text ≤ 262144
  pub seconds : packet.seconds ≡ field order 0 text
  pub fraction : packet.fraction ≡ field order 4 text
  pub wire : packet.wire ≡ max (field order 12 text) (captured order text)
  pub bytes : packet.bytes ≡ drop 16 text

-- what comes after the last record: nothing, a part of a record, or an invalid record header
pub data End : Type 0 where
  Whole : End
  Torn : End
  Bad : End

-- the file ends inside a record header
abbrev pub EndsInHeader : List ℕ → Type 0
EndsInHeader rest = (0 < length rest) × (length rest < 16)

-- the file ends inside the captured bytes
abbrev pub EndsInBytes : ByteOrder → List ℕ → Type 0
EndsInBytes order rest = (16 ≤ length rest) × (captured order rest ≤ 262144) × (length rest < 16 + captured order rest)

-- a record header that is whole, with a captured length above the maximum
abbrev pub IsBad : ByteOrder → List ℕ → Type 0
IsBad order rest = (16 ≤ length rest) × (262144 < captured order rest)

abbrev pub IsEnd : ByteOrder → List ℕ → End → Type 0
IsEnd order rest Whole = rest ≡ []
IsEnd order rest Torn = EndsInHeader rest ⊎ EndsInBytes order rest
IsEnd order rest Bad = IsBad order rest

-- the bytes of these packets' records, one after another, and then this end
abbrev pub AreRecords : ByteOrder → List ℕ → List Packet → End → Type 0
AreRecords order bytes [] end = IsEnd order bytes end
AreRecords order bytes (packet ∷ packets) end =
    (text : List ℕ) × (rest : List ℕ) × (bytes ≡ text ++ rest) × IsRecord order text packet
    × AreRecords order rest packets end

-- the bytes are records in some way, and in only one way
abbrev pub HasReading : ByteOrder → List ℕ → Type 0
HasReading order bytes = (packets : List Packet) × (end : End) × AreRecords order bytes packets end

abbrev pub HasOneReading : ByteOrder → List ℕ → Type 0
HasOneReading order bytes = (ps qs : List Packet) (e f : End) → AreRecords order bytes ps e
    → AreRecords order bytes qs f → (ps ≡ qs) × (e ≡ f)

pub record Capture : Type 0 where
  pub order : ByteOrder
  pub resolution : Resolution
  pub packets : List Packet
  pub torn : Bool

abbrev pub end_of : Bool → End
end_of true = Torn
end_of false = Whole

-- the bytes are this capture
pub record IsCapture (bytes : List ℕ) (capture : Capture) : Type 0 where
  pub header : HasHeader bytes capture.order capture.resolution
  pub records : AreRecords capture.order (drop 24 bytes) capture.packets (end_of capture.torn)

-- fewer than 24 bytes, or no magic
pub data IsNotPcap (bytes : List ℕ) : Type 0 where
  Short : length bytes < 24 → IsNotPcap bytes
  Other : HasNoMagic bytes → IsNotPcap bytes

pub record IsBadVersion (bytes : List ℕ) : Type 0 where
  pub order : ByteOrder
  pub resolution : Resolution
  pub whole : 24 ≤ length bytes
  pub magic : HasMagic bytes order resolution
  pub version : ¬ HasVersion bytes order

pub record IsBadLink (bytes : List ℕ) : Type 0 where
  pub order : ByteOrder
  pub resolution : Resolution
  pub whole : 24 ≤ length bytes
  pub magic : HasMagic bytes order resolution
  pub version : HasVersion bytes order
  pub link : ¬ HasLink bytes order

pub record IsBadRecord (bytes : List ℕ) : Type 0 where
  pub order : ByteOrder
  pub resolution : Resolution
  pub packets : List Packet
  pub header : HasHeader bytes order resolution
  pub records : AreRecords order (drop 24 bytes) packets Bad

-- the bytes aren't a capture, for this reason
abbrev pub IsRefused : List ℕ → CapFault → Type 0
IsRefused bytes NotPcap = IsNotPcap bytes
IsRefused bytes BadVersion = IsBadVersion bytes
IsRefused bytes BadLink = IsBadLink bytes
IsRefused bytes BadRecord = IsBadRecord bytes
IsRefused bytes _ = ⊥

-- what a list of bytes is: a capture, or refused
pub data Case : Type 0 where
  Captured : Capture → Case
  Refused : CapFault → Case

abbrev pub IsCase : List ℕ → Case → Type 0
IsCase bytes (Captured capture) = IsCapture bytes capture
IsCase bytes (Refused fault) = IsRefused bytes fault
