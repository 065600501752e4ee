-- A reader of a capture: how far it has got, and what is still to come.
use Rattle.std.specs.Prelude.{◌≡◌, ℕ, ◌<◌, List, length, drop, Option, Some, IfSome, ⊤, Bool, true}
use Rattle.std.specs.Io.KnownBytes.{Consumes}
use Rattle.pcapio_laws.specs.Capture.{Packet, HasHeader, IsRecord, IsRefused, IsEnd, IsBad, end_of}
use Rattle.pcapio_laws.specs.declared.fault.CapFault.{CapFault}
use Rattle.pcapio_laws.specs.declared.fault.CapFault.TheVariants.{BadRecord, Read, Write, Memory}
use Rattle.pcapio_laws.specs.declared.format.ByteOrder.{ByteOrder}
use Rattle.pcapio_laws.specs.declared.format.Resolution.{Resolution}
use Rattle.pcapio.specs.ReadBuffer.{unread}
use Rattle.pcapio.specs.Counted.{to_come, HasFailed}
use Rattle.pcapio.specs.Record.{IsHead, packet_of}
use Rattle.pcapio.specs.ReaderState.{head_of, GoesOn}
use Rattle.pcapio.specs.declared.counted.Counted.{Counted}
use Rattle.pcapio.specs.declared.reader.Reader.{Reader}
use Rattle.pcapio.specs.declared.record.Head.{Head}
use Rattle.pcapio.specs.declared.reader_state.ReaderState.{ReaderState}
use Rattle.pcapio.specs.declared.reader_state.ReaderState.TheVariants.{Ended}

-- the next remaining record was taken
abbrev pub TakesRecord : ByteOrder → Option (List ℕ) → Option (List ℕ) → Packet → Type 0
TakesRecord order old new packet = (text : List ℕ) × Consumes old new text × IsRecord order text packet

-- there is no further record, and this is the end
abbrev pub EndsSo : ByteOrder → Option (List ℕ) → Bool → Type 0
EndsSo order old torn = IfSome old (λ bytes. IsEnd order bytes (end_of torn))

-- what is to come begins with an invalid record header
abbrev pub IsBadAhead : ByteOrder → Option (List ℕ) → Type 0
IsBadAhead order old = IfSome old (IsBad order)

-- why a file wasn't opened: because of its header, because the device failed, or because it ran out of memory
abbrev pub Refuses : Option (List ℕ) → CapFault → Type 0 → Type 0
Refuses bytes Read failed = failed
Refuses bytes Memory failed = ⊤
Refuses bytes BadRecord failed = ⊥
Refuses bytes Write failed = ⊥
Refuses bytes fault failed = IfSome bytes (λ known. IsRefused known fault)

-- what explains a fault, for each fault that a reader returns
abbrev pub Explains : CapFault → Type 0 → Type 0 → Type 0 → Type 0
Explains BadRecord bad failed memory = bad
Explains Read bad failed memory = failed
Explains Memory bad failed memory = memory
Explains _ bad failed memory = ⊥

module _ {R : Type 0} where
  abbrev pub order_of : Reader R → ByteOrder
  order_of r = r.order

  abbrev pub resolution_of : Reader R → Resolution
  resolution_of r = r.resolution

  abbrev pub state_of : Reader R → ReaderState
  state_of r = r.state

  -- the head that was returned, whose bytes are still to come
  abbrev pub pending_of : Reader R → Option Head
  pending_of r = head_of r.state

  -- the device that it reads
  abbrev pub source_of : Reader R → Counted R
  source_of r = r.device

  -- neither at the end nor at a fault
  abbrev pub IsReading : Reader R → Type 0
  IsReading r = GoesOn r.state

  -- the file is still the same one
  abbrev pub IsSameFile : Reader R → Reader R → Type 0
  IsSameFile old new = (new.order ≡ old.order) × (new.resolution ≡ old.resolution)

  -- its device failed, or it didn't
  abbrev pub Fails : Reader R → Reader R → Type 0
  Fails old new = HasFailed old.device new.device

  -- why the bytes of a record weren't returned: 5 Read, 7 Memory
  abbrev pub WhyNoBytes : Reader R → Reader R → CapFault → Type 0
  WhyNoBytes old new fault = Explains fault ⊥ (Fails old new) ⊤

module _ {R : Type 0} (remaining : R → Option (List ℕ)) where
  -- the bytes that are still to come, if those of the device are known: from the next record on, or from the pending
  -- one on
  abbrev pub rest : Reader R → Option (List ℕ)
  rest r = unread remaining r.ahead r.device

  -- the device begins with a file header that has the reader's byte order and resolution
  abbrev pub HasHeaderOf : Counted R → Reader R → Type 0
  HasHeaderOf device r = IfSome (to_come remaining device) (λ bytes. HasHeader bytes r.order r.resolution)

  -- what is still to come is what the device has after its file header
  abbrev pub IsBehindHeader : Counted R → Reader R → Type 0
  IsBehindHeader device r = IfSome (to_come remaining device) (λ bytes. rest r ≡ Some (drop 24 bytes))

  -- what is still to come begins with a record header with these fields
  abbrev pub BeginsWithHead : Reader R → Head → Type 0
  BeginsWithHead r head = IfSome (rest r) (λ bytes. IsHead r.order bytes head)

  -- the next record was taken, and is this packet's
  abbrev pub Takes : Reader R → Reader R → Packet → Type 0
  Takes old new packet = TakesRecord old.order (rest old) (rest new) packet

  -- the pending record was taken, and these were its bytes, as many as in its head
  abbrev pub TakesBody : Reader R → Reader R → List ℕ → Type 0
  TakesBody old new bytes =
      IfSome (pending_of old) (λ head. (length bytes ≡ head.captured) × Takes old new (packet_of head bytes))

  -- the pending head was consumed: as many bytes as it has, if they are taken, are those of its record
  abbrev pub TakesPending : Reader R → Reader R → Head → Type 0
  TakesPending old new head = (bytes : List ℕ) (after : Option (List ℕ)) → length bytes ≡ head.captured
      → Consumes (rest new) after bytes → TakesRecord old.order (rest old) after (packet_of head bytes)

  -- the file ends inside the remaining record
  abbrev pub EndsTorn : Reader R → Type 0
  EndsTorn r = EndsSo r.order (rest r) true

  -- the pending head was consumed: if fewer bytes are left than it has, the file ends inside its record
  abbrev pub LeavesTorn : Reader R → Reader R → Head → Type 0
  LeavesTorn old new head = IfSome (rest new) (λ left. length left < head.captured) → EndsTorn old

  -- there was no further record: the reader is at the end, and knows how the file ends
  abbrev pub FindsEnd : Reader R → Reader R → Type 0
  FindsEnd old new = (torn : Bool) × (new.state ≡ Ended torn) × EndsSo old.order (rest old) torn

  -- why `head` returned a fault: 4 BadRecord, 5 Read
  abbrev pub WhyNoHead : Reader R → Reader R → CapFault → Type 0
  WhyNoHead old new fault = Explains fault (IsBadAhead old.order (rest old)) (Fails old new) ⊥

  -- why `next` returned a fault: 4 BadRecord, 5 Read, 7 Memory
  abbrev pub WhyNoRecord : Reader R → Reader R → CapFault → Type 0
  WhyNoRecord old new fault = Explains fault (IsBadAhead old.order (rest old)) (Fails old new) ⊤
