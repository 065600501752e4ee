-- Worked rows of the faults of a run in threads, computed by the definitions.
use Rattle.std.proofs.Common.{◌≡◌, ℕ, Result, Ok, Err, refl}
use Rattle.pcapio_laws.specs.declared.fault.CapFault.{CapFault}
use Rattle.run_one.specs.declared.fault.RunFault.{RunFault}
use Rattle.run_one.specs.declared.fault.RunFault.TheVariants.{Memory, Read, Write, Capture, Window, Worn, Thread}
use Rattle.stages.specs.declared.stage_fault.StageFault.{StageFault}
use Rattle.stages.specs.declared.stage_fault.StageFault.TheVariants as ring
use Rattle.stages.specs.StageFaults.{answer_with, fault_of_stage, lower_of}

lower_ones : (lower_of Worn Window ≡ Window) × (lower_of Window Worn ≡ Window) × (lower_of (Capture CapFault.BadLink) Window ≡ Capture CapFault.BadLink)
    × (lower_of Worn Read ≡ Read) × (lower_of Memory Thread ≡ Memory) × (lower_of (Write 1) (Write 0) ≡ Write 1)
lower_ones = (refl, refl, refl, refl, refl, refl)

of_rings : (fault_of_stage ring.Window ≡ Window) × (fault_of_stage ring.Worn ≡ Worn)
of_rings = (refl, refl)

-- the answer 5, or a fault, and then a stage that could continue, or not
abbrev five : Result ℕ RunFault
five = Ok 5

abbrev no_answer : RunFault → Result ℕ RunFault
no_answer fault = Err fault

abbrev stopped : StageFault → Result ℕ StageFault
stopped found = Err found

abbrev goes_on : Result ℕ StageFault
goes_on = Ok 0

answers : (answer_with five goes_on ≡ five) × (answer_with five (stopped ring.Worn) ≡ no_answer Worn)
    × (answer_with (no_answer Read) goes_on ≡ no_answer Read) × (answer_with (no_answer Read) (stopped ring.Window) ≡ no_answer Read)
    × (answer_with (no_answer Worn) (stopped ring.Window) ≡ no_answer Window)
answers = (refl, refl, refl, refl, refl)
