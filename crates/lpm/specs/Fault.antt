-- The error numbers.
use Rattle.std.specs.Prelude.{ℕ}
use Rattle.lpm.specs.declared.fault.RouteFault.{RouteFault}
use Rattle.lpm.specs.declared.fault.RouteFault.TheVariants.{BadDepth, BadHop, NoGroup, Memory, NoRoute}

abbrev pub number_of : RouteFault → ℕ
number_of BadDepth = 1
number_of BadHop = 2
number_of NoGroup = 3
number_of Memory = 4
number_of NoRoute = 5
