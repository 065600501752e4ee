-- The numbers of refusals
use Rattle.std.specs.Prelude.{ℕ}
use Rattle.pool_laws.specs.Faults.{number_of}
use Rattle.pool.specs.declared.word_opening.CacheFault.{CacheFault}
use Rattle.pool.specs.declared.word_opening.CacheFault.TheVariants.{Memory, Pool}

abbrev pub cache_number_of : CacheFault → ℕ
cache_number_of Memory = 6
cache_number_of (Pool e) = number_of e
