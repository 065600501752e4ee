use Rattle.std.proofs.Common.{◌∙◌, ◌+◌, ◌∷◌, []}
use Rattle.std.specs.Prelude.{take, drop, slice_index_or}
use Rattle.std.proofs.lemmas.List.{take_more}
use Rattle.ringcore.proofs.EntrySteps.{claim_fails, claim_more, numbers_split}
use Rattle.ringcore.proofs.places.mark_each.Goals as goal

pub returns-then-not-mark : goal.returns-then-not-mark
returns-then-not-mark c =
    let xs = c.args.numbers.now in
    let k = c.loop-k.k in
    let b = slice_index_or xs k 0 in
    let both = claim_fails c.args.actor c.args.places.now c.loop-k.places c.mark.new.places (take k xs) (b ∷ []) (drop (k + 1) xs) xs c.mark.result
    c.loop-k.invariant c.mark.ensures c.if-not-mark.true (numbers_split xs k 0 c.loop-k-test.true) in
    (both.0, c.set_each.ensures ∙ both.1)

pub loop-k-preserved : goal.loop-k-preserved
loop-k-preserved c =
    let xs = c.args.numbers.now in
    let k = c.loop-k.k in
    let b = slice_index_or xs k 0 in
    claim_more c.args.actor c.args.places.now c.loop-k.places c.mark.new.places (take k xs) (b ∷ []) (take (k + 1) xs) c.mark.result
    c.loop-k.invariant c.mark.ensures c.if-not-mark.false (take_more xs k 0 c.loop-k-test.true)
