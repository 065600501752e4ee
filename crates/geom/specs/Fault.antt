-- The error numbers.
use Rattle.std.specs.Prelude.{ℕ}
use Rattle.geom.specs.declared.geometry.GeomFault.{GeomFault}
use Rattle.geom.specs.declared.geometry.GeomFault.TheVariants.{NotPower, TooSmall, TooLarge}

abbrev pub number_of : GeomFault → ℕ
number_of NotPower = 1
number_of TooSmall = 2
number_of TooLarge = 3
