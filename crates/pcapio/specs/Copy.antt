-- A copy of a capture: the records that a chain has space for, one after another.
use Rattle.std.specs.Prelude.{◌≡◌, ℕ, ◌-◌, ◌^◌, ◌≤◌, List, [], ◌∷◌, ◌++◌, Bool, Option, Result, IfOk, IfSome, IfNone}
use Rattle.std.specs.Prelude.{nat_le, length, drop, filter, ⊤}
use Rattle.std.specs.List.{flat_map}
use Rattle.std.specs.Io.KnownBytes.{Appends, append_known}
use Rattle.mbuf.specs.Buffer.{Buffer}
use Rattle.mbuf.specs.Chain.{space_of}
use Rattle.pcapio_laws.specs.Capture.{Packet, End, Bad, AreRecords, end_of, HasHeader, Capture, IsCapture, IsRefused}
use Rattle.pcapio_laws.specs.Text.{record_text, file_text}
use Rattle.pcapio_laws.specs.declared.fault.CapFault.{CapFault}
use Rattle.pcapio_laws.specs.declared.fault.CapFault.TheVariants.{BadRecord, Read, Write, Memory}
use Rattle.pcapio_laws.specs.declared.format.ByteOrder.{ByteOrder}
use Rattle.pcapio_laws.specs.declared.format.Resolution.{Resolution}
use Rattle.pcapio.specs.Begin.{Begins}
use Rattle.pcapio.specs.Counted.{to_come, told, Tells, BeginsToTell, HasFailed}
use Rattle.pcapio.specs.Reader.{rest, Takes}
use Rattle.pcapio.specs.Writer.{text}
use Rattle.pcapio.specs.declared.counted.Counted.{Counted}
use Rattle.pcapio.specs.declared.reader.Reader.{Reader}
use Rattle.pcapio.specs.declared.writer.Writer.{Writer}

-- the packets that have at most this many bytes
abbrev pub fitting : ℕ → List Packet → List Packet
fitting space packets = filter (λ packet. nat_le (length packet.bytes) space) packets

-- the bytes of those packets' records
abbrev pub copied_text : ℕ → List Packet → List ℕ
copied_text space packets = flat_map record_text (fitting space packets)

-- the records in the bytes a are these packets', followed by those in b
abbrev pub Stand : ByteOrder → Option (List ℕ) → Option (List ℕ) → List Packet → Type 0
Stand order a b packets = (more : List Packet) (end : End) → IfSome b (λ bytes. AreRecords order bytes more end)
    → IfSome a (λ bytes. AreRecords order bytes (packets ++ more) end)

-- the result of a copy: Some of whether the file ended inside a record, or None if it has too many records
module _ {E : Type 0} where
  abbrev pub IfEnded : Result (Option Bool) E → (Bool → Type 0) → Type 0
  IfEnded answer P = IfOk answer (λ it. IfSome it P)

  abbrev pub IfEndless : Result (Option Bool) E → Type 0 → Type 0
  IfEndless answer P = IfOk answer (λ it. IfNone it P)

module _ {R W : Type 0} (remaining : R → Option (List ℕ)) (contents : W → Option (List ℕ)) (chain : List Buffer) where
  -- the next record was taken, and its bytes were added if it fits
  abbrev pub CopiesOne : Reader R → Reader R → Writer W → Writer W → Type 0
  CopiesOne r r' w w' = (packet : Packet) × Takes remaining r r' packet
      × Appends (text contents w) (text contents w') (copied_text (space_of chain) (packet ∷ []))

  -- a prefix of what was to be written for the next record has been written to the device
  abbrev pub BeginsOne : Reader R → Writer W → Writer W → Type 0
  BeginsOne r w w' = (packets : List Packet) × (after : Option (List ℕ))
      × Stand r.order (rest remaining r) after packets
      × Begins (told contents w'.device) (append_known (text contents w) (copied_text (space_of chain) packets))

  -- all remaining records were copied, and this is how the file ends
  abbrev pub Copies : Reader R → Writer W → Writer W → Bool → Type 0
  Copies r w w' torn = IfSome (rest remaining r) (λ bytes. (packets : List Packet)
      × AreRecords r.order bytes packets (end_of torn)
      × Appends (text contents w) (text contents w') (copied_text (space_of chain) packets))

  -- this is a prefix of what a copy of all remaining records puts
  abbrev pub BeginsCopy : Reader R → Writer W → Option (List ℕ) → Type 0
  BeginsCopy r w part = IfSome (rest remaining r) (λ bytes. (packets : List Packet) (end : End)
      → AreRecords r.order bytes packets end
      → Begins part (append_known (text contents w) (copied_text (space_of chain) packets)))

  -- such a prefix has been written to the device
  abbrev pub BeginsToCopy : Reader R → Writer W → Writer W → Type 0
  BeginsToCopy r w w' = BeginsCopy r w (told contents w'.device)

  -- what was put is such a prefix
  abbrev pub CopiesPart : Reader R → Writer W → Writer W → Type 0
  CopiesPart r w w' = BeginsCopy r w (text contents w')

  -- the same, and all of it has been written to the device
  abbrev pub CopiesOut : Reader R → Writer W → Writer W → Bool → Type 0
  CopiesOut r w w' torn = IfSome (rest remaining r) (λ bytes. (packets : List Packet)
      × AreRecords r.order bytes packets (end_of torn)
      × Appends (text contents w) (told contents w'.device) (copied_text (space_of chain) packets))

  -- the capture on one device was copied to the other, and this is how it ends
  abbrev pub CopiesCapture : Counted R → Counted W → Counted W → Bool → Type 0
  CopiesCapture from to to' torn = IfSome (to_come remaining from) (λ bytes. (capture : Capture)
      × IsCapture bytes capture × (capture.torn ≡ torn)
      × Tells contents to to' (file_text capture.resolution (fitting (space_of chain) capture.packets)))

  -- a prefix of what a copy of one device's records writes has been written to the other
  abbrev pub BeginsCapture : Counted R → Counted W → Counted W → Type 0
  BeginsCapture from to to' = IfSome (to_come remaining from)
      (λ bytes. (order : ByteOrder) (resolution : Resolution) (packets : List Packet) (end : End)
      → HasHeader bytes order resolution → AreRecords order (drop 24 bytes) packets end
      → BeginsToTell contents to to' (file_text resolution (fitting (space_of chain) packets)))

-- what explains a fault of a copy: the bytes, a read, or a write
abbrev pub StopsBy : CapFault → Type 0 → Type 0 → Type 0 → Type 0
StopsBy BadRecord bad read written = bad
StopsBy Read bad read written = read
StopsBy Write bad read written = written
StopsBy _ bad read written = ⊥

module _ {R : Type 0} (remaining : R → Option (List ℕ)) where
  -- there are more records left than can be counted
  abbrev pub IsEndless : Reader R → Type 0
  IsEndless r = IfSome (rest remaining r) (λ bytes. (packets : List Packet) × (end : End)
      × AreRecords r.order bytes packets end × (2 ^ 64 - 1 ≤ length packets))

  -- the remaining records end with an invalid record header
  abbrev pub EndsBad : Reader R → Type 0
  EndsBad r = IfSome (rest remaining r) (λ bytes. (packets : List Packet) × AreRecords r.order bytes packets Bad)

  -- a device's bytes have a file header, and more records after it than can be counted
  abbrev pub IsEndlessCapture : Counted R → Type 0
  IsEndlessCapture from = IfSome (to_come remaining from) (λ bytes. (order : ByteOrder) × (resolution : Resolution)
      × HasHeader bytes order resolution × (packets : List Packet) × (end : End)
      × AreRecords order (drop 24 bytes) packets end × (2 ^ 64 - 1 ≤ length packets))

module _ {R W : Type 0} where
  -- why a record wasn't copied: 5 Read, 6 Write
  abbrev pub WhyOneStopped : Reader R → Reader R → Writer W → Writer W → CapFault → Type 0
  WhyOneStopped r r' w w' fault = StopsBy fault ⊥ (HasFailed r.device r'.device) (HasFailed w.device w'.device)

  -- why the records weren't copied to their end: 4 BadRecord, 5 Read, 6 Write
  abbrev pub WhyStopped : (R → Option (List ℕ)) → Reader R → Reader R → Writer W → Writer W → CapFault → Type 0
  WhyStopped remaining r r' w w' fault =
      StopsBy fault (EndsBad remaining r) (HasFailed r.device r'.device) (HasFailed w.device w'.device)

-- why a capture wasn't copied: 1 NotPcap, 2 BadVersion, 3 BadLink, 4 BadRecord by its bytes, 5 Read, 6 Write, 7 Memory
abbrev pub ExplainsRefusal : CapFault → Option (List ℕ) → Type 0 → Type 0 → Type 0
ExplainsRefusal Read bytes read written = read
ExplainsRefusal Write bytes read written = written
ExplainsRefusal Memory bytes read written = ⊤
ExplainsRefusal fault bytes read written = IfSome bytes (λ known. IsRefused known fault)

module _ {R W : Type 0} where
  abbrev pub WhyNotCopied : (R → Option (List ℕ)) → Counted R → Counted R → Counted W → Counted W → CapFault → Type 0
  WhyNotCopied remaining from from' to to' fault =
      ExplainsRefusal fault (to_come remaining from) (HasFailed from from') (HasFailed to to')
