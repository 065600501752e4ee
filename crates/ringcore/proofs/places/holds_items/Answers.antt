use Rattle.std.proofs.Common.{◌∙◌}
use Rattle.std.specs.List.{flat_map}
use Rattle.ringcore_laws.specs.History.{tags}
use Rattle.ringcore.proofs.EntrySteps.{passed_back, passed_is}
use Rattle.ringcore.proofs.places.holds_items.Goals as goal

pub returns-then-passed-clause-answer : goal.returns-then-passed-clause-answer
returns-then-passed-clause-answer c =
    passed_is c.args.actor c.args.places.now c.mark_items-passed.new.places (flat_map tags c.args.items.now) c.mark_items-passed.result
    c.mark_items-passed.ensures

pub returns-then-passed-clause-kept : goal.returns-then-passed-clause-kept
returns-then-passed-clause-kept c =
    c.hold_items.ensures
    ∙ passed_back c.args.actor c.args.places.now c.mark_items-passed.new.places (flat_map tags c.args.items.now) c.mark_items-passed.result
    c.mark_items-passed.ensures c.if-passed.true

pub returns-else-passed-clause-answer : goal.returns-else-passed-clause-answer
returns-else-passed-clause-answer c =
    passed_is c.args.actor c.args.places.now c.mark_items-passed.new.places (flat_map tags c.args.items.now) c.mark_items-passed.result
    c.mark_items-passed.ensures
