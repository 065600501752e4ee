-- The error numbers
use Rattle.std.specs.Prelude.{ℕ}
use Rattle.ringcore.specs.declared.plan.WorldFault.{WorldFault}
use Rattle.ringcore.specs.declared.plan.WorldFault.TheVariants.{Memory, BadPlan}

abbrev pub number_of : WorldFault → ℕ
number_of Memory = 1
number_of BadPlan = 2
