use Rattle.std.proofs.Common.{◌∙◌, ap}
use Rattle.ringcore_laws.specs.declared.protocol.Place.TheVariants.{Held}
use Rattle.ringcore_laws.specs.History.{tags}
use Rattle.ringcore.specs.Entries.{with_each}
use Rattle.ringcore.proofs.EntrySteps.{hold_turn}
use Rattle.ringcore.proofs.places.hold_items.Goals as goal

pub loop-k-preserved : goal.loop-k-preserved
loop-k-preserved c =
    c.set_item.ensures
    ∙ (ap (λ v. with_each v (tags c.index-items-k.result) (Held c.args.actor)) c.loop-k.invariant
    ∙ hold_turn c.args.places.now c.args.items.now c.loop-k.k c.index-items-k.result (Held c.args.actor) c.loop-k-test.true c.index-items-k.is)
