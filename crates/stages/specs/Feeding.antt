-- Why the reader of a run in threads stopped.
use Rattle.std.specs.Prelude.{◌≡◌, ◌+◌, ◌-◌, ◌^◌, ℕ, ⊤, min, Option, None, Some, Result, Err}
use Rattle.pcapio.specs.Counted.{failures_of}
use Rattle.pcapio.specs.Reader.{Fails}
use Rattle.pcapio.specs.declared.counted.Counted.{Counted}
use Rattle.pcapio.specs.declared.reader.Reader.{Reader}
use Rattle.pcapio_laws.specs.declared.fault.CapFault.{CapFault}
use Rattle.pcapio_laws.specs.declared.fault.CapFault.TheVariants.{BadRecord}
use Rattle.stages_laws.specs.Input.{Input}
use Rattle.run_one.specs.Turns.{EndsBad}
use Rattle.run_one.specs.declared.fault.RunFault.{RunFault}
use Rattle.run_one.specs.declared.fault.RunFault.TheVariants.{Memory, Thread, Read, Write, Capture, Window, Worn}

-- why not all records were read and sent: the input's device failed, the input isn't a valid capture, or the numbers of
-- it or of a ring are used up
abbrev pub WhyUnfed : {R : Type 0} → Option Input → Reader R → Reader R → RunFault → Type 0
WhyUnfed input old new Memory = ⊥
WhyUnfed input old new Thread = ⊥
WhyUnfed input old new Read = Fails old new
WhyUnfed input old new (Write p) = ⊥
WhyUnfed input old new (Capture fault) = (fault ≡ BadRecord) × EndsBad input
WhyUnfed input old new Window = ⊤
WhyUnfed input old new Worn = ⊤

module _ {R X : Type 0} where
  -- Read is returned if the input's device is here, and failed once more
  abbrev pub ReadFailed : ℕ → Option (Counted R) → Result X RunFault → Type 0
  ReadFailed before device answer = (d : Counted R) → device ≡ Some d → answer ≡ Err Read
      → failures_of d ≡ min (before + 1) (2 ^ 64 - 1)

  -- the input's device is here, unless the reader's thread couldn't be started
  abbrev pub IsHere : Option (Counted R) → Result X RunFault → Type 0
  IsHere device answer = device ≡ None → answer ≡ Err Thread

-- Capture is returned for an invalid record
abbrev pub IsNoCapture : {X : Type 0} → Option Input → Result X RunFault → Type 0
IsNoCapture input answer = (fault : CapFault) → answer ≡ Err (Capture fault) → (fault ≡ BadRecord) × EndsBad input

-- Write is returned by no reader
abbrev pub WroteNothing : {X : Type 0} → Result X RunFault → Type 0
WroteNothing answer = (p : ℕ) → answer ≡ Err (Write p) → ⊥
