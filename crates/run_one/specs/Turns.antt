-- The turns of a run by one thread.
use Rattle.std.specs.Prelude.{◌≡◌, ◌≤◌, ℕ, ◌-◌, ◌^◌, Bool, if◌then◌else◌, List, length, Option, None, Some}
use Rattle.std.specs.FinMap as map
use Rattle.mbuf.specs.Buffer.{Buffer}
use Rattle.pcapio.specs.Reader.{Fails}
use Rattle.pcapio.specs.declared.reader.Reader.{Reader}
use Rattle.pcapio_laws.specs.Capture.{Bad}
use Rattle.pcapio_laws.specs.declared.fault.CapFault.TheVariants.{BadRecord}
use Rattle.reorder.specs.Waiting.{Waiting}
use Rattle.stages_laws.specs.Input.{Input}
use Rattle.run_one.specs.declared.fault.RunFault.{RunFault}
use Rattle.run_one.specs.declared.fault.RunFault.TheVariants.{Read, Write, Capture, Window}

-- a window that holds no number from its turn on
abbrev pub IsVacant : {T : Type 0} → Waiting T → Type 0
IsVacant w = (n : ℕ) → w.next ≤ n → map.get w.held n ≡ None

-- of two chains the long one: the first, or the other
abbrev pub long_of : Bool → List Buffer → List Buffer → List Buffer
long_of is_long chain other = if is_long then chain else other

-- the input ends with an invalid record header
abbrev pub EndsBad : Option Input → Type 0
EndsBad input = (i : Input) → input ≡ Some i → i.ending ≡ Bad

-- it has more records than can be counted
abbrev pub IsEndless : Option Input → Type 0
IsEndless input = (i : Input) → input ≡ Some i → 2 ^ 64 - 1 ≤ length i.packets

-- why not all records were taken: the input's device failed, that of a port, the input isn't a valid capture, or it is
-- endless
abbrev pub WhyStopped : {R : Type 0} → Option Input → Reader R → Reader R → Option ℕ → RunFault → Type 0
WhyStopped input old new failed Read = Fails old new
WhyStopped input old new failed (Write p) = failed ≡ Some p
WhyStopped input old new failed (Capture fault) = (fault ≡ BadRecord) × EndsBad input
WhyStopped input old new failed Window = IsEndless input
WhyStopped input old new failed _ = ⊥
