-- Why the reader of a run in threads stopped, since its start.
use Rattle.std.proofs.Common.{◌≡◌, Option, None, Some, sym, subst}
use Rattle.pcapio.specs.Counted.{HasNotFailed}
use Rattle.pcapio.specs.Reader.{Fails, source_of}
use Rattle.pcapio.specs.declared.reader.Reader.{Reader}
use Rattle.pcapio.proofs.Runs.{failed-later}
use Rattle.stages_laws.specs.Input.{Input}
use Rattle.run_one.specs.Turns.{WhyStopped}
use Rattle.run_one.specs.declared.fault.RunFault.{RunFault}
use Rattle.run_one.specs.declared.fault.RunFault.TheVariants.{Memory, Thread, Read, Write, Capture, Window, Worn}
use Rattle.stages.specs.Feeding.{WhyUnfed}
use Rattle.stages.specs.StageFaults.{fault_of_stage}
use Rattle.stages.specs.declared.stage_fault.StageFault.{StageFault}
use Rattle.stages.specs.declared.stage_fault.StageFault.TheVariants as ring

pub unfed_since : {R : Type 0} (input : Option Input) (start old new : Reader R) (fault : RunFault) → HasNotFailed (source_of start) (source_of old)
    → WhyStopped input old new None fault → WhyUnfed input start new fault
unfed_since input start old new Read worked why = failed-later _ _ _ worked why
unfed_since input start old new (Capture fault) worked why = why
unfed_since input start old new Window worked why = tt
unfed_since input start old new Memory worked why = absurd why
unfed_since input start old new Thread worked why = absurd why
unfed_since input start old new (Write p) worked why = absurd (let e : None ≡ Some p = why in cc)
unfed_since input start old new Worn worked why = absurd why

pub unfed_late : {R : Type 0} (input : Option Input) (start old new : Reader R) (fault : RunFault) → HasNotFailed (source_of start) (source_of old)
    → fault ≡ Read → Fails old new → WhyUnfed input start new fault
unfed_late input start old new fault worked is fails = subst (WhyUnfed input start new) (sym is) (failed-later _ _ _ worked fails)

pub unfed_by_stage : {R : Type 0} (input : Option Input) (old new : Reader R) (why : StageFault) → WhyUnfed input old new (fault_of_stage why)
unfed_by_stage input old new ring.Window = tt
unfed_by_stage input old new ring.Worn = tt
