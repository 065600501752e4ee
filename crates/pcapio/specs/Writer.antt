-- A writer of a capture: what was put so far, and its fault.
use Rattle.std.specs.Prelude.{◌≡◌, ℕ, List, Option, None}
use Rattle.std.specs.Io.KnownBytes.{Keeps, Appends, append_known}
use Rattle.mbuf.specs.Buffer.{Buffer}
use Rattle.pcapio_laws.specs.Text.{file_header, record_text}
use Rattle.pcapio_laws.specs.declared.fault.CapFault.{CapFault}
use Rattle.pcapio_laws.specs.declared.format.Resolution.{Resolution}
use Rattle.pcapio.specs.Begin.{Begins}
use Rattle.pcapio.specs.WriteBuffer.{unsent}
use Rattle.pcapio.specs.Counted.{told, HasFailed}
use Rattle.pcapio.specs.Record.{packet_in, packet_with}
use Rattle.pcapio.specs.declared.counted.Counted.{Counted}
use Rattle.pcapio.specs.declared.writer.Writer.{Writer}

module _ {W : Type 0} where
  -- the device that it writes to
  abbrev pub sink_of : Writer W → Counted W
  sink_of w = w.device

  abbrev pub fault_of : Writer W → Option CapFault
  fault_of w = w.fault

  -- at no fault
  abbrev pub IsWell : Writer W → Type 0
  IsWell w = w.fault ≡ None

  -- its device failed
  abbrev pub Fails : Writer W → Writer W → Type 0
  Fails old new = HasFailed old.device new.device

module _ {W : Type 0} (contents : W → Option (List ℕ)) where
  -- what was written to the device, followed by what is still in the buffer, if the first is known
  abbrev pub text : Writer W → Option (List ℕ)
  text w = unsent contents w.behind w.device

  -- what was put is what the device had, followed by the header of a file
  abbrev pub Opens : Counted W → Resolution → Writer W → Type 0
  Opens device resolution w = Appends (told contents device) (text w) (file_header resolution)

  -- the record of a packet whose bytes are in a chain was added
  abbrev pub Puts : Writer W → Writer W → ℕ → ℕ → ℕ → List Buffer → Type 0
  Puts old new seconds fraction wire chain =
      Appends (text old) (text new) (record_text (packet_in seconds fraction wire chain))

  -- a prefix of what there was, followed by that record, has been written to the device
  abbrev pub BeginsToPut : Writer W → Writer W → ℕ → ℕ → ℕ → List Buffer → Type 0
  BeginsToPut old new seconds fraction wire chain =
      Begins (told contents new.device) (append_known (text old) (record_text (packet_in seconds fraction wire chain)))

  -- the record of a packet with these bytes was added
  abbrev pub PutsFrame : Writer W → Writer W → ℕ → ℕ → ℕ → List ℕ → Type 0
  PutsFrame old new seconds fraction wire frame =
      Appends (text old) (text new) (record_text (packet_with seconds fraction wire frame))

  -- a prefix of what there was, followed by that record, has been written to the device
  abbrev pub BeginsToPutFrame : Writer W → Writer W → ℕ → ℕ → ℕ → List ℕ → Type 0
  BeginsToPutFrame old new seconds fraction wire frame =
      Begins (told contents new.device) (append_known (text old) (record_text (packet_with seconds fraction wire frame)))

  -- all of it has been written to the device
  abbrev pub IsTold : Writer W → Writer W → Type 0
  IsTold old new = Keeps (text old) (told contents new.device)

  -- a prefix of it has been written to the device
  abbrev pub IsToldPart : Writer W → Writer W → Type 0
  IsToldPart old new = Begins (told contents new.device) (text old)
