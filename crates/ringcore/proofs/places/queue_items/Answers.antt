use Rattle.std.proofs.Common.{◌≡◌, ◌∙◌, ap, arith, ◌+◌}
use Rattle.ringcore_laws.specs.declared.protocol.Place.TheVariants.{AtRing}
use Rattle.ringcore_laws.specs.History.{tags}
use Rattle.ringcore.specs.Entries.{with_each}
use Rattle.ringcore.proofs.EntrySteps.{queue_turn}
use Rattle.ringcore.proofs.places.queue_items.Goals as goal

pub loop-k-preserved : goal.loop-k-preserved
loop-k-preserved c = λ fits.
    let at : c.args.start + c.loop-k.k ≡ c.saturating_add-position.result = omega (arith, fits, c.loop-k-test.true, c.saturating_add-position.ensures) in
    c.set_item.ensures
    ∙ (ap (λ v. with_each v (tags c.index-items-k.result) (AtRing c.args.ring c.saturating_add-position.result)) (c.loop-k.invariant fits)
    ∙ queue_turn c.args.places.now c.args.ring c.args.start c.saturating_add-position.result c.args.items.now c.loop-k.k c.index-items-k.result
    c.loop-k-test.true c.index-items-k.is at)
