-- Why a reader finds no further record in its input.
use Rattle.std.specs.Prelude.{◌≡◌, ℕ, List, Option}
use Rattle.pcapio.specs.Reader.{IsBadAhead, rest, Fails}
use Rattle.pcapio.specs.declared.reader.Reader.{Reader}
use Rattle.pcapio_laws.specs.declared.fault.CapFault.TheVariants.{BadRecord}
use Rattle.run_one.specs.declared.fault.RunFault.{RunFault}
use Rattle.run_one.specs.declared.fault.RunFault.TheVariants.{Read, Capture}

module _ {R : Type 0} (remaining : R → Option (List ℕ)) where
  -- why there is none: the device failed, or the record is invalid
  abbrev pub WhyNone : Reader R → Reader R → RunFault → Type 0
  WhyNone old new Read = Fails old new
  WhyNone old new (Capture fault) = (fault ≡ BadRecord) × IsBadAhead old.order (rest remaining old)
  WhyNone old new _ = ⊥
