use Rattle.std.proofs.lemmas.Result.{err_from_is_err_and}
use Rattle.mbuf.specs.Chain.{space_of}
use Rattle.pcapio.proofs.Runs.{part-told}
use Rattle.pcapio.proofs.copy.copy_and_flush.Goals as goal

pub returns-in_err-flush-clause-begins : goal.returns-in_err-flush-clause-begins
returns-in_err-flush-clause-begins g c =
    let p = err_from_is_err_and c.from_residual-in_err-flush.result c.from_residual-in_err-flush.ensures.1 in
    rw p.1 (part-told (space_of c.args.chain.now) _ _ _ _ _ c.in_err-flush.ensures.begins c.in_ok-copied.ensures.part)
