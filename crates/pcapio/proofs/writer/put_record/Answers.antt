use Rattle.std.proofs.Common.{rules, arith}
use Rattle.std.proofs.lemmas.Result.{err_from_is_err_and}
use Rattle.mbuf.specs.Chain.{bytes_of}
use Rattle.pcapio.proofs.Begins.{begins-front}
use Rattle.pcapio.proofs.Chains.{begins-record, added-part}
use Rattle.pcapio.proofs.writer.put_record.Goals as goal

pub returns-in_err-add-clause-begins : goal.returns-in_err-add-clause-begins
returns-in_err-add-clause-begins g c =
    let p = err_from_is_err_and c.from_residual.result c.from_residual.ensures.1 in
    rw p.1 (begins-front _ _ c.args.head.now (bytes_of c.args.chain.now) c.in_err-add.ensures.begins)

pub returns-in_err-add-2-clause-begins : goal.returns-in_err-add-2-clause-begins
returns-in_err-add-2-clause-begins g c =
    let p = err_from_is_err_and c.from_residual-in_err-add-2.result c.from_residual-in_err-add-2.ensures.1 in
    let part = rw c.part.ensures.segment at c.in_err-add-2.ensures.begins in
    rw p.1 (begins-record _ _ _ c.args.head.now c.loop-i.i c.args.chain.now (omega (arith, c.segments-i-end.ensures.value, c.loop-i-test.true))
    c.loop-i.invariant.added part)

pub loop-i-preserved : goal.loop-i-preserved
loop-i-preserved g c =
    let part = rw c.part.ensures.segment at c.in_ok-add-2.ensures.ok in
    record {
      added = added-part _ _ _ c.args.head.now c.loop-i.i c.args.chain.now (omega (arith, c.segments-i-end.ensures.value, c.loop-i-test.true))
          c.loop-i.invariant.added part;
      well = search rules;
    }
