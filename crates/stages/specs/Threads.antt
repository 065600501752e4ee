-- Why a run in threads has no summary.
use Rattle.std.specs.Prelude.{◌≡◌, ◌+◌, ◌-◌, ◌^◌, ℕ, ⊤, min, List, map, Option, Some, IfSome}
use Rattle.pcapio.specs.Counted.{to_come, failures_of, HasFailed}
use Rattle.pcapio.specs.declared.counted.Counted.{Counted}
use Rattle.pcapio_laws.specs.Capture.{IsRefused}
use Rattle.pcapio_laws.specs.declared.fault.CapFault.TheVariants.{BadRecord}
use Rattle.stages_laws.specs.Input.{Input}
use Rattle.run_one.specs.Failing.{FailedAt}
use Rattle.run_one.specs.Turns.{EndsBad}
use Rattle.run_one.specs.Whole.{HasSomeHeader}
use Rattle.run_one.specs.declared.fault.RunFault.{RunFault}
use Rattle.run_one.specs.declared.fault.RunFault.TheVariants.{Memory, Thread, Read, Write, Capture as Refused, Window}
use Rattle.run_one.specs.declared.fault.RunFault.TheVariants.{Worn}

-- from the first record on: the input's device failed, or that of a port, and no other; or the input ends with an
-- invalid record header. Nothing is stated about the other faults
abbrev pub WhyEnded : {R W : Type 0}
    → Option Input → List ℕ → ℕ → Option (Counted R) → List (Counted W) → RunFault → Type 0
WhyEnded {R} input failures before device devices Read =
    (d : Counted R) × (device ≡ Some d) × (failures_of d ≡ min (before + 1) (2 ^ 64 - 1))
WhyEnded input failures before device devices (Write p) = FailedAt failures p devices
WhyEnded input failures before device devices (Refused fault) = (fault ≡ BadRecord) × EndsBad input
WhyEnded input failures before device devices Memory = ⊤
WhyEnded input failures before device devices Thread = ⊤
WhyEnded input failures before device devices Window = ⊤
WhyEnded input failures before device devices Worn = ⊤

-- the input's device failed, or that of a port, and no other; or the input is refused. The threads and their rings come
-- into it only after the input's file header was accepted. Nothing is stated about memory
abbrev pub WhyNoSummaryOfThreads : {R W : Type 0} → (R → Option (List ℕ)) → Counted R → Option (Counted R)
    → List (Counted W) → List (Counted W) → RunFault → Type 0
WhyNoSummaryOfThreads {R} remaining reader device writers devices Read =
    (source : Counted R) × (device ≡ Some source) × HasFailed reader source
WhyNoSummaryOfThreads remaining reader device writers devices (Write p) = FailedAt (map failures_of writers) p devices
WhyNoSummaryOfThreads remaining reader device writers devices (Refused fault) =
    IfSome (to_come remaining reader) (λ bytes. IsRefused bytes fault)
WhyNoSummaryOfThreads remaining reader device writers devices Memory = ⊤
WhyNoSummaryOfThreads remaining reader device writers devices Thread = IfSome (to_come remaining reader) HasSomeHeader
WhyNoSummaryOfThreads remaining reader device writers devices Window = IfSome (to_come remaining reader) HasSomeHeader
WhyNoSummaryOfThreads remaining reader device writers devices Worn = IfSome (to_come remaining reader) HasSomeHeader
