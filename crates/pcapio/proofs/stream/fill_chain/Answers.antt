use Rattle.std.proofs.Common.{◌≡◌, ◌<◌, length, ◌∙◌, rules, arith}
use Rattle.mbuf.specs.Chain.{part_of}
use Rattle.pcapio.proofs.Chains.{same_count, shape-rewritten, taken-step, short_chain}
use Rattle.pcapio.proofs.stream.fill_chain.Goals as goal

pub returns-in_err-fill-clause-shape : goal.returns-in_err-fill-clause-shape
returns-in_err-fill-clause-shape g c = shape-rewritten c.loop-i.i c.fill.new.out c.loop-i.chain ∙ c.loop-i.invariant.shape

pub returns-then-not-branch-clause-shape : goal.returns-then-not-branch-clause-shape
returns-then-not-branch-clause-shape g c = shape-rewritten c.loop-i.i c.fill.new.out c.loop-i.chain ∙ c.loop-i.invariant.shape

pub returns-then-not-branch-clause-short : goal.returns-then-not-branch-clause-short
returns-then-not-branch-clause-short g c = λ _.
    let short = c.in_ok-fill.ensures.short (search rules) in
    short_chain _ _ c.loop-i.i c.loop-i.chain c.args.chain.now c.loop-i.invariant.taken (rw (← c.part_mut.ensures.value) short) c.loop-i.invariant.shape

pub loop-i-preserved : goal.loop-i-preserved
loop-i-preserved g c =
    let i = c.loop-i.i in
    let w = c.fill.new.out in
    let there : i < length c.loop-i.chain =
    omega (arith, same_count c.loop-i.chain c.args.chain.now c.loop-i.invariant.shape, c.segments-i-end.ensures.value, c.loop-i-test.true) in
    let len : length w ≡ length (part_of c.loop-i.chain i) = search rules in
    record {
      taken = taken-step _ _ _ i w c.loop-i.chain there len c.loop-i.invariant.taken (c.in_ok-fill.ensures.whole (search rules));
      shape = shape-rewritten i w c.loop-i.chain ∙ c.loop-i.invariant.shape;
      well = search rules;
    }
