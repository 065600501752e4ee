-- The error numbers.
use Rattle.std.specs.Prelude.{ℕ}
use Rattle.reorder.specs.declared.fault.InsertFault.{InsertFault}
use Rattle.reorder.specs.declared.fault.InsertFault.TheVariants.{Late, Early, Double}

abbrev pub number_of : InsertFault → ℕ
number_of Late = 1
number_of Early = 2
number_of Double = 3
