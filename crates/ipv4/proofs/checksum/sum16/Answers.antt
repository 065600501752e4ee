use Rattle.std.proofs.Common.{◌≡◌, ◌+◌, ◌∙◌, arith}
use Rattle.ipv4.proofs.Sums.{total_of}
use Rattle.ipv4.proofs.SumSteps.{summed_more, summed_all, two_left, none_left}
use Rattle.ipv4.proofs.checksum.sum16.Goals.{then-rest-eq2, else-rest-eq2}
use Rattle.ipv4.proofs.checksum.sum16.Goals as goal

pub loop-rest-preserved : goal.loop-rest-preserved
loop-rest-preserved c =
    summed_more c.args.bytes.now c.loop-rest.rest.now _ c.loop-rest.total _ c.loop-rest.invariant c.loop-rest-test.true c.split_at.ensures.back (omega arith)
    (omega arith)

pub returns : goal.returns
returns c =
    let rest = c.loop-rest.rest.now in
    let so_far = c.loop-rest.invariant in
    let whole : c.if-rest-eq2.total ≡ c.loop-rest.total + total_of rest =
    elim c.if-rest-eq2.branch [
      | then-rest-eq2 w ↦ omega (arith, two_left rest (omega arith), w.total-is, w.word_at.ensures, w.from-total-then-rest-eq2.ensures)
      | else-rest-eq2 w ↦ omega (arith, none_left rest (omega (arith, so_far.even)), w.total-is)
    ] in
    c.carried.ensures ∙ summed_all c.args.bytes.now rest c.loop-rest.total _ so_far whole (λ i. omega (arith, c.type_inv.bytes i))
