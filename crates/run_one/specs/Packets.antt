-- A packet's own fact: it belongs to the record with its number.
use Rattle.std.specs.Prelude.{◌≡◌, ◌<◌, ℕ, Bool, List, Option, Some, slice_get}
use Rattle.ipv4.specs.declared.verdicts.Verdict.{Verdict}
use Rattle.ipv4.specs.declared.verdicts.Verdict.TheVariants.{Send}
use Rattle.pcapio_laws.specs.Capture.{Packet}
use Rattle.stages_laws.specs.Input.{Input}
use Rattle.stages_laws.specs.Output.{Fate, stamped}

-- this is the record numbered `seq` among the numbered records of the input
abbrev pub IsRecord : Option Input → ℕ → ℕ → Packet → Type 0
IsRecord input room seq packet = (i : Input) → input ≡ Some i → slice_get (stamped room i.packets) seq ≡ Some packet

abbrev pub fate_with : Verdict → Packet → Fate
fate_with verdict packet = record { verdict = verdict; packet = packet }

-- this is what becomes of the record numbered `seq`
abbrev pub IsFate : Option (List Fate) → ℕ → Verdict → Packet → Type 0
IsFate outs seq verdict packet =
    (all : List Fate) → outs ≡ Some all → slice_get all seq ≡ Some (fate_with verdict packet)

-- it goes to one of this many ports, if it is sent
abbrev pub HasPort : ℕ → Verdict → Type 0
HasPort ports verdict = (port : ℕ) (tagged : Bool) → verdict ≡ Send port tagged → port < ports
