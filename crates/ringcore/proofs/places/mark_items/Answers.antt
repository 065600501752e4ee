use Rattle.std.proofs.Common.{◌∙◌, ◌+◌}
use Rattle.std.specs.Prelude.{take, drop}
use Rattle.std.specs.List.{flat_map}
use Rattle.ringcore_laws.specs.History.{tags}
use Rattle.ringcore.proofs.EntrySteps.{claim_fails, claim_more, items_split, tags_more}
use Rattle.ringcore.proofs.places.mark_items.Goals as goal

pub returns-then-not-mark_item : goal.returns-then-not-mark_item
returns-then-not-mark_item c =
    let items = c.args.items.now in
    let k = c.loop-k.k in
    let item = c.index-items-k.result in
    let both = claim_fails c.args.actor c.args.places.now c.loop-k.places c.mark_item.new.places (flat_map tags (take k items)) (tags item)
    (flat_map tags (drop (k + 1) items)) (flat_map tags items) c.mark_item.result c.loop-k.invariant c.mark_item.ensures c.if-not-mark_item.true
    (items_split items k item c.loop-k-test.true c.index-items-k.is) in
    (both.0, c.hold_items.ensures ∙ both.1)

pub loop-k-preserved : goal.loop-k-preserved
loop-k-preserved c =
    let items = c.args.items.now in
    let k = c.loop-k.k in
    let item = c.index-items-k.result in
    claim_more c.args.actor c.args.places.now c.loop-k.places c.mark_item.new.places (flat_map tags (take k items)) (tags item)
    (flat_map tags (take (k + 1) items)) c.mark_item.result c.loop-k.invariant c.mark_item.ensures c.if-not-mark_item.false
    (tags_more items k item c.loop-k-test.true c.index-items-k.is)
