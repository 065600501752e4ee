-- Why a run in threads has no summary, from what its reader and its sink leave.
use Rattle.std.proofs.Common.{◌≡◌, ◌≤◌, ◌-◌, ◌^◌, ℕ, List, drop, length, map, Option, None, Some, Result, Ok, Err, IfSome, refl, sym, ◌∙◌, subst}
use Rattle.pcapio.specs.Counted.{to_come, failures_of, HasNotFailed}
use Rattle.pcapio.specs.Reader.{source_of}
use Rattle.pcapio.specs.declared.counted.Counted.{Counted}
use Rattle.pcapio.specs.declared.reader.Reader.{Reader}
use Rattle.pcapio.proofs.Runs.{failed-later}
use Rattle.pcapio_laws.specs.Capture.{AreRecords, End, HasHeader, Packet}
use Rattle.pcapio_laws.specs.declared.format.ByteOrder.{ByteOrder}
use Rattle.pcapio_laws.specs.declared.format.Resolution.{Resolution}
use Rattle.stages_laws.specs.Input.{Input}
use Rattle.stages_laws.specs.declared.run.Run.{Ghosts}
use Rattle.run_one.specs.Ending.{WhyFaulted}
use Rattle.run_one.specs.Failing.{FailedAt}
use Rattle.stages.specs.Feeding.{ReadFailed, IsHere, IsNoCapture}
use Rattle.stages.specs.Threads.{WhyEnded, WhyNoSummaryOfThreads}
use Rattle.run_one.specs.Whole.{HasSomeHeader, WhyNoSummary}
use Rattle.run_one.specs.declared.fault.RunFault.{RunFault}
use Rattle.run_one.specs.declared.fault.RunFault.TheVariants.{Memory, Thread, Read, Write, Capture as Refused, Window, Worn}
use Rattle.run_one.specs.declared.records.input_totals.InputTotals.{InputTotals}
use Rattle.run_one.proofs.Opened.{input_of, refused_whole}

-- a file header, whatever it says
some_header : (order : ByteOrder) (resolution : Resolution) (a : Option (List ℕ)) → IfSome a (λ bytes. HasHeader bytes order resolution)
    → IfSome a HasSomeHeader
some_header order resolution None header = tt
some_header order resolution (Some x) header = (order, resolution, header)

-- an endless capture has one
endless_header : (a : Option (List ℕ)) → IfSome a (λ bytes. (order : ByteOrder) × (resolution : Resolution) × HasHeader bytes order resolution
    × (packets : List Packet) × (end : End) × AreRecords order (drop 24 bytes) packets end × (2 ^ 64 - 1 ≤ length packets))
    → IfSome a HasSomeHeader
endless_header None endless = tt
endless_header (Some x) endless = (endless.0, endless.1, endless.2)

read_for_thread : {X : Type 0} {R : Type 0} → ◌≡◌ {A = Result X RunFault} (Err Read) (Err Thread) → R
read_for_thread e = absurd (cc e)

-- what a reader returned, and what the end of the run returned of it
pub why_ended : {J R W : Type 0} {G : Ghosts J} (input : Option Input) (failures : List ℕ) (before next : ℕ) (device : Option (Counted R))
    (answer : Result (InputTotals J G) RunFault) (devices : List (Counted W)) (fault : RunFault) → ReadFailed before device answer → IsHere device answer
    → IsNoCapture input answer → WhyFaulted failures next answer devices fault → WhyEnded input failures before device devices fault
why_ended input failures before next device (Ok totals) devices Read failed here refused why = absurd (let e : Read ≡ Window = why.0 in cc)
why_ended input failures before next None (Err reason) devices Read failed here refused why =
    read_for_thread ((λ k. Err (why k)) ∙ here refl)
why_ended input failures before next (Some d) (Err reason) devices Read failed here refused why =
    (d, refl, failed d refl (λ k. Err (sym why k)))
why_ended input failures before next device answer devices (Write p) failed here refused why = why
why_ended input failures before next device (Ok totals) devices (Refused fault) failed here refused why =
    absurd (let e : Refused fault ≡ Window = why.0 in cc)
why_ended input failures before next device (Err reason) devices (Refused fault) failed here refused why =
    refused fault (λ k. Err (sym why k))
why_ended input failures before next device answer devices Memory failed here refused why = tt
why_ended input failures before next device answer devices Thread failed here refused why = tt
why_ended input failures before next device answer devices Window failed here refused why = tt
why_ended input failures before next device answer devices Worn failed here refused why = tt

pub why_of_threads : (order : ByteOrder) (resolution : Resolution) {R W : Type 0} (remaining : R → Option (List ℕ)) (rest : Option (List ℕ)) (failures : List ℕ)
    (reader : Counted R) (device : Option (Counted R)) (opened : Reader R) (writers devices : List (Counted W)) (fault : RunFault)
    → IfSome (to_come remaining reader) (λ bytes. HasHeader bytes order resolution)
    → IfSome (to_come remaining reader) (λ bytes. rest ≡ Some (drop 24 bytes)) → HasNotFailed reader (source_of opened) → failures ≡ map failures_of writers
    → WhyEnded (input_of order rest) failures (failures_of (source_of opened)) device devices fault → WhyNoSummaryOfThreads remaining reader device
    writers devices fault
why_of_threads order resolution remaining rest failures reader device opened writers devices Read header behind well same why =
    (why.0, why.1, failed-later _ _ _ well why.2)
why_of_threads order resolution remaining rest failures reader device opened writers devices (Write p) header behind well same why =
    subst (λ f. FailedAt f p devices) same why
why_of_threads order resolution remaining rest failures reader device opened writers devices (Refused fault) header behind well same why =
    refused_whole order resolution (to_come remaining reader) rest fault header behind why.0 why.1
why_of_threads order resolution remaining rest failures reader device opened writers devices Memory header behind well same why = tt
why_of_threads order resolution remaining rest failures reader device opened writers devices Thread header behind well same why =
    some_header order resolution (to_come remaining reader) header
why_of_threads order resolution remaining rest failures reader device opened writers devices Window header behind well same why =
    some_header order resolution (to_come remaining reader) header
why_of_threads order resolution remaining rest failures reader device opened writers devices Worn header behind well same why =
    some_header order resolution (to_come remaining reader) header

-- what a run by one thread states about a missing summary is what one in threads states
pub of_threads : {R W : Type 0} (remaining : R → Option (List ℕ)) (reader source : Counted R) (writers devices : List (Counted W)) (fault : RunFault)
    → WhyNoSummary remaining reader source writers devices fault → WhyNoSummaryOfThreads remaining reader (Some source) writers devices fault
of_threads remaining reader source writers devices Read why = (source, refl, why)
of_threads remaining reader source writers devices (Write p) why = why
of_threads remaining reader source writers devices (Refused fault) why = why
of_threads remaining reader source writers devices Memory why = tt
of_threads remaining reader source writers devices Thread why = absurd why
of_threads remaining reader source writers devices Window why = endless_header (to_come remaining reader) why
of_threads remaining reader source writers devices Worn why = absurd why
