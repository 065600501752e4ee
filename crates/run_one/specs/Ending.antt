-- The result of a run at its end.
use Rattle.std.specs.Prelude.{◌≡◌, ◌≢◌, ℕ, List, Option, Some, Result, Ok, Err}
use Rattle.pcapio.specs.declared.counted.Counted.{Counted}
use Rattle.pcapio_laws.specs.Capture.{end_of}
use Rattle.stages_laws.specs.Input.{Input}
use Rattle.stages_laws.specs.Output.{Forwarding, tally_of}
use Rattle.stages_laws.specs.declared.run.Run.{Ghosts}
use Rattle.run_one.specs.Failing.{FailedAt}
use Rattle.run_one.specs.declared.summary.Summary.{Summary}
use Rattle.run_one.specs.declared.fault.RunFault.{RunFault}
use Rattle.run_one.specs.declared.fault.RunFault.TheVariants.{Write, Window}
use Rattle.run_one.specs.declared.records.input_totals.InputTotals.{InputTotals}

-- the counts are those of the input, and this is its end
abbrev pub Sums : Option Input → ℕ → ℕ → Forwarding → Summary → Type 0
Sums input ports room forwarding summary = (i : Input) → input ≡ Some i
    → (summary.counts ≡ tally_of ports forwarding room i.packets)
    × (i.ending ≡ end_of summary.torn)

-- why there is no summary: what the reader returned, a number of records that isn't the sink's, or a device that failed
abbrev pub WhyNone : {J : Type 0} {G : Ghosts J} → ℕ → Result (InputTotals J G) RunFault → RunFault → Type 0
WhyNone next (Ok totals) fault = (fault ≡ Window) × (next ≢ totals.count)
WhyNone next (Err reason) fault = fault ≡ reason

abbrev pub WhyFaulted : {J W : Type 0} {G : Ghosts J} → List ℕ → ℕ → Result (InputTotals J G) RunFault → List
    (Counted W) → RunFault → Type 0
WhyFaulted failures next totals devices (Write p) = FailedAt failures p devices
WhyFaulted failures next totals devices fault = WhyNone next totals fault
