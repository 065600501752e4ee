-- The numbers of refusals
use Rattle.std.specs.Prelude.{ℕ}
use Rattle.pool_laws.specs.declared.faults.PoolFault.{PoolFault}
use Rattle.pool_laws.specs.declared.faults.PoolFault.TheVariants.{Short, CacheFull, NotYours, Worn, BadSize}

abbrev pub number_of : PoolFault → ℕ
number_of Short = 1
number_of CacheFull = 2
number_of NotYours = 3
number_of Worn = 4
number_of BadSize = 5
