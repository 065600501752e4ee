use Rattle.pcapio_laws.proofs.Written.{again}
use Rattle.pcapio_laws.proofs.laws.written_again.Goals as goal

pub returns : goal.returns
returns c = again
