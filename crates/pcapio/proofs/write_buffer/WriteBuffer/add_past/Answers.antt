use Rattle.std.proofs.lemmas.Result.{err_from_is_err_and}
use Rattle.pcapio.proofs.Begins.{begins-more}
use Rattle.pcapio.proofs.write_buffer.WriteBuffer.add_past.Goals as goal

pub returns-in_err-write_out-clause-begins : goal.returns-in_err-write_out-clause-begins
returns-in_err-write_out-clause-begins g c =
    let p = err_from_is_err_and c.from_residual.result c.from_residual.ensures.1 in
    rw p.1 (begins-more _ _ c.args.bytes.now c.in_err-write_out.ensures.begins)
