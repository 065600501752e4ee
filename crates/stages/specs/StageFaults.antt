-- The faults of a stage, and the lower of two faults.
use Rattle.std.specs.Prelude.{nat_lt, if◌then◌else◌, Result, Ok, Err}
use Rattle.run_one.specs.Faults.{number_of}
use Rattle.run_one.specs.declared.fault.RunFault.{RunFault}
use Rattle.run_one.specs.declared.fault.RunFault.TheVariants.{Window, Worn}
use Rattle.stages.specs.declared.stage_fault.StageFault.{StageFault}
use Rattle.stages.specs.declared.stage_fault.StageFault.TheVariants as ring

-- the fault with the lower number; of two with the same number the first
abbrev pub lower_of : RunFault → RunFault → RunFault
lower_of a b = if nat_lt (number_of b) (number_of a) then b else a

-- the fault of a run whose stage can't continue
abbrev pub fault_of_stage : StageFault → RunFault
fault_of_stage ring.Window = Window
fault_of_stage ring.Worn = Worn

-- the answer of a reader or a sink, once it is known whether its last stage could continue: the lower of two faults
abbrev pub answer_with : {X D : Type 0} → Result X RunFault → Result D StageFault → Result X RunFault
answer_with answer (Ok done) = answer
answer_with (Ok x) (Err found) = Err (fault_of_stage found)
answer_with (Err fault) (Err found) = Err (lower_of fault (fault_of_stage found))
