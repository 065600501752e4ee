-- The records of a capture as a list.
use Rattle.std.specs.Prelude.{◌≡◌, ⊤, List, ◌++◌, Bool, Option, IfSome, map, ℕ}
use Rattle.pcapio_laws.specs.Capture.{Packet, End, AreRecords, end_of}
use Rattle.pcapio_laws.specs.declared.fault.CapFault.{CapFault}
use Rattle.pcapio.specs.Copy.{EndsBad}
use Rattle.pcapio.specs.Counted.{HasFailed}
use Rattle.pcapio.specs.Reader.{rest, Explains}
use Rattle.pcapio.specs.Record.{view}
use Rattle.pcapio.specs.declared.reader.Reader.{Reader}
use Rattle.pcapio.specs.declared.record.Record.{Record}

module _ {R : Type 0} (remaining : R → Option (List ℕ)) where
  -- after the existing records come all remaining ones, and this is how the file ends
  abbrev pub Collects : Reader R → List Record → List Record → Bool → Type 0
  Collects r old new torn = (given : List Record) × (new ≡ old ++ given)
      × IfSome (rest remaining r) (λ bytes. AreRecords r.order bytes (map view given) (end_of torn))

  -- after the existing records come the first of the remaining ones
  abbrev pub CollectsPart : Reader R → List Record → List Record → Type 0
  CollectsPart r old new = (given : List Record) × (new ≡ old ++ given)
      × IfSome (rest remaining r) (λ bytes. (packets : List Packet) (end : End) → AreRecords r.order bytes packets end
      → (more : List Packet) × (packets ≡ map view given ++ more))

  -- why not all of them: 4 BadRecord, 5 Read, 7 Memory
  abbrev pub WhyNotAll : Reader R → Reader R → CapFault → Type 0
  WhyNotAll old new fault = Explains fault (EndsBad remaining old) (HasFailed old.device new.device) ⊤
