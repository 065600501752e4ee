use Rattle.std.proofs.Common.{◌∙◌}
use Rattle.pcapio.proofs.Chains.{same_length, same_fresh}
use Rattle.pcapio.proofs.stream.read_body.Goals as goal

pub returns-in-Ok-true-clause-length : goal.returns-in-Ok-true-clause-length
returns-in-Ok-true-clause-length g c = λ _.
    same_length _ _ c.fill_chain.ensures.shape ∙ c.in-Ok.ensures.len

pub returns-in-Ok-true-clause-kept : goal.returns-in-Ok-true-clause-kept
returns-in-Ok-true-clause-kept g c = same_fresh _ _ c.fill_chain.ensures.shape ∙ c.resize.ensures.kept

pub returns-in-Ok-false-clause-kept : goal.returns-in-Ok-false-clause-kept
returns-in-Ok-false-clause-kept g c = c.reset.ensures.kept ∙ (same_fresh _ _ c.fill_chain.ensures.shape ∙ c.resize.ensures.kept)

pub returns-in-Ok-false-clause-fresh : goal.returns-in-Ok-false-clause-fresh
returns-in-Ok-false-clause-fresh g c = λ _. c.reset.ensures.done ∙ (same_fresh _ _ c.fill_chain.ensures.shape ∙ c.resize.ensures.kept)

pub returns-in-Err-clause-kept : goal.returns-in-Err-clause-kept
returns-in-Err-clause-kept g c = c.reset-in-Err.ensures.kept ∙ (same_fresh _ _ c.fill_chain.ensures.shape ∙ c.resize.ensures.kept)

pub returns-in-Err-clause-given_up : goal.returns-in-Err-clause-given_up
returns-in-Err-clause-given_up g c =
    c.reset-in-Err.ensures.done ∙ (same_fresh _ _ c.fill_chain.ensures.shape ∙ c.resize.ensures.kept)
