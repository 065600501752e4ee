-- A whole run: a capture in, and what the device of each port receives.
use Rattle.std.specs.Prelude.{◌≡◌, ◌<◌, ℕ, List, length, drop, map, slice_get, Option, Some, IfSome, ⊤}
use Rattle.ipv4.specs.Forwarding.{forwarded}
use Rattle.pcapio.specs.Copy.{IsEndlessCapture}
use Rattle.pcapio.specs.Counted.{to_come, told, failures_of, HasFailed}
use Rattle.pcapio.specs.Reader.{source_of}
use Rattle.pcapio.specs.declared.counted.Counted.{Counted}
use Rattle.pcapio.specs.declared.reader.Reader.{Reader}
use Rattle.pcapio_laws.specs.Capture.{Packet, End, Capture, IsCapture, HasHeader, AreRecords, IsRefused}
use Rattle.pcapio_laws.specs.declared.fault.CapFault.TheVariants.{BadRecord}
use Rattle.pcapio_laws.specs.declared.format.ByteOrder.{ByteOrder}
use Rattle.pcapio_laws.specs.declared.format.Resolution.{Resolution}
use Rattle.settings.specs.declared.read.Settings.{Settings}
use Rattle.stages_laws.specs.Input.{Input}
use Rattle.stages_laws.specs.Output.{Forwarding, fates, tally_of}
use Rattle.run_one.specs.Failing.{FailedAt}
use Rattle.run_one.specs.Ports.{AreOutputs, AreBeginnings}
use Rattle.run_one.specs.Turns.{EndsBad, IsEndless}
use Rattle.run_one.specs.declared.summary.Summary.{Summary}
use Rattle.run_one.specs.declared.fault.RunFault.{RunFault}
use Rattle.run_one.specs.declared.fault.RunFault.TheVariants.{Memory, Thread, Read, Write, Capture as Refused, Window}
use Rattle.run_one.specs.declared.fault.RunFault.TheVariants.{Worn}

-- what becomes of a frame with these settings
abbrev pub forwarding_by : Settings → Forwarding
forwarding_by settings = forwarded settings.table.members settings.ports

-- the bytes have a file header
abbrev pub HasSomeHeader : List ℕ → Type 0
HasSomeHeader bytes = (order : ByteOrder) × (resolution : Resolution) × HasHeader bytes order resolution

module _ {W : Type 0} (contents : W → Option (List ℕ)) (settings : Settings) (bytes : List ℕ) where
  -- the bytes are a capture; the device of each port was handed back, and received its whole output; and the counts are
  -- those of its records
  pub record IsRun (writers devices : List (Counted W)) (summary : Summary) : Type 0 where
    pub capture : Capture
    pub is : IsCapture bytes capture
    pub all : length devices ≡ length writers
    pub outputs : AreOutputs contents (map (told contents) writers) capture.resolution
        (fates (forwarding_by settings) settings.room capture.packets) devices
    pub counts : summary.counts ≡ tally_of (length writers) (forwarding_by settings) settings.room capture.packets
    pub torn : summary.torn ≡ capture.torn

  -- each port received a prefix of the output of the records after the file header, however they end
  abbrev pub IsBegun : List (Counted W) → List (Counted W) → Type 0
  IsBegun writers devices = (order : ByteOrder) (resolution : Resolution) (packets : List Packet) (end : End)
      → HasHeader bytes order resolution → AreRecords order (drop 24 bytes) packets end
      → AreBeginnings contents (map (told contents) writers) resolution
      (fates (forwarding_by settings) settings.room packets) devices

  -- without a file header nothing was written
  abbrev pub IsUntouched : List (Counted W) → List (Counted W) → Type 0
  IsUntouched writers devices = (¬ HasSomeHeader bytes) → devices ≡ writers

-- it is known what each device received before
abbrev pub AreKnown : List (Option (List ℕ)) → Type 0
AreKnown texts = (q : ℕ) → q < length texts → (x : List ℕ) × (slice_get texts q ≡ Some (Some x))

-- why there is no summary of the records: a device failed, the input ends with an invalid record header, it is endless,
-- or memory was refused
abbrev pub WhyStoppedAt : {R W : Type 0}
    → Option Input → List ℕ → Reader R → Counted R → List (Counted W) → RunFault → Type 0
WhyStoppedAt input failures reader source devices Memory = ⊤
WhyStoppedAt input failures reader source devices Read = HasFailed (source_of reader) source
WhyStoppedAt input failures reader source devices (Write p) = FailedAt failures p devices
WhyStoppedAt input failures reader source devices (Refused fault) = (fault ≡ BadRecord) × EndsBad input
WhyStoppedAt input failures reader source devices Window = IsEndless input
WhyStoppedAt input failures reader source devices Thread = ⊥
WhyStoppedAt input failures reader source devices Worn = ⊥

-- why there is no summary: the input's device failed, or that of a port, and no other; the input is refused, or has
-- more records than can be numbered; or memory was refused
abbrev pub WhyNoSummary : {R W : Type 0} → (R → Option (List ℕ)) → Counted R → Counted R
    → List (Counted W) → List (Counted W) → RunFault → Type 0
WhyNoSummary remaining reader source writers devices Memory = ⊤
WhyNoSummary remaining reader source writers devices Read = HasFailed reader source
WhyNoSummary remaining reader source writers devices (Write p) = FailedAt (map failures_of writers) p devices
WhyNoSummary remaining reader source writers devices (Refused fault) =
    IfSome (to_come remaining reader) (λ bytes. IsRefused bytes fault)
WhyNoSummary remaining reader source writers devices Window = IsEndlessCapture remaining reader
WhyNoSummary remaining reader source writers devices Thread = ⊥
WhyNoSummary remaining reader source writers devices Worn = ⊥
