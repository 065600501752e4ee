-- The numbers of the faults of a run.
use Rattle.std.specs.Prelude.{ℕ}
use Rattle.pcapio_laws.specs.declared.fault.CapFault.{CapFault}
use Rattle.run_one.specs.declared.fault.RunFault.{RunFault}
use Rattle.run_one.specs.declared.fault.RunFault.TheVariants.{Memory, Thread, Read, Write, Capture, Window, Worn}

abbrev pub number_of : RunFault → ℕ
number_of Memory = 1
number_of Thread = 2
number_of Read = 3
number_of (Write port) = 4
number_of (Capture fault) = 5
number_of Window = 6
number_of Worn = 7

-- the fault with the lower number, of the fault of a port and another one
abbrev pub lowest_of : ℕ → RunFault → RunFault
lowest_of port Memory = Memory
lowest_of port Thread = Thread
lowest_of port Read = Read
lowest_of port fault = Write port

-- the fault of a run whose input had this fault
abbrev pub fault_of_input : CapFault → RunFault
fault_of_input CapFault.Read = Read
fault_of_input CapFault.Memory = Memory
fault_of_input fault = Capture fault
