use Rattle.std.proofs.Common.{length, arith}
use Rattle.pcapio_laws.proofs.Unique.{one}
use Rattle.pcapio_laws.proofs.Exists.{exists}
use Rattle.pcapio_laws.proofs.laws.one_reading.Goals as goal

pub returns-clause-exists : goal.returns-clause-exists
returns-clause-exists c order bytes = exists order (length bytes) bytes (omega arith)

pub returns-clause-one : goal.returns-clause-one
returns-clause-one c order bytes ps qs e f = one order ps qs bytes e f
