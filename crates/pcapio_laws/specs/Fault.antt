-- The error numbers.
use Rattle.std.specs.Prelude.{ℕ}
use Rattle.pcapio_laws.specs.declared.fault.CapFault.{CapFault}

abbrev pub number_of : CapFault → ℕ
number_of CapFault.NotPcap = 1
number_of CapFault.BadVersion = 2
number_of CapFault.BadLink = 3
number_of CapFault.BadRecord = 4
number_of CapFault.Read = 5
number_of CapFault.Write = 6
number_of CapFault.Memory = 7
