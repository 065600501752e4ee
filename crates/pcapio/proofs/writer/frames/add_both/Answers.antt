use Rattle.std.proofs.lemmas.Result.{err_from_is_err_and}
use Rattle.pcapio.proofs.Begins.{begins-front}
use Rattle.pcapio.proofs.writer.frames.add_both.Goals as goal

pub returns-in_err-add-clause-begins : goal.returns-in_err-add-clause-begins
returns-in_err-add-clause-begins g c =
    let p = err_from_is_err_and c.from_residual.result c.from_residual.ensures.1 in
    rw p.1 (begins-front _ _ c.args.head.now c.args.frame.now c.in_err-add.ensures.begins)
