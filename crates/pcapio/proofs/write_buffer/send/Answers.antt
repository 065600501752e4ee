use Rattle.std.proofs.Common.{rules}
use Rattle.std.proofs.lemmas.Result.{err_from_is_err_and}
use Rattle.pcapio.proofs.Begins.{begins-failed, sent-more}
use Rattle.pcapio.proofs.write_buffer.send.Goals as goal

pub returns-in_err-at-clause-begins : goal.returns-in_err-at-clause-begins
returns-in_err-at-clause-begins g c =
    let p = err_from_is_err_and c.from_residual.result c.from_residual.ensures.1 in
    rw p.1 (begins-failed _ _ _ c.args.bytes.now c.loop-at.at c.loop-at.invariant.told_so_far c.in_err-at.ensures.bytes)

pub loop-at-preserved : goal.loop-at-preserved
loop-at-preserved g c =
    record {
      within = search rules;
      told_so_far = sent-more _ _ _ c.args.bytes.now c.loop-at.at c.in_ok-at.field-0 c.loop-at.invariant.told_so_far c.in_ok-at.ensures.bytes;
      well = search rules;
    }
