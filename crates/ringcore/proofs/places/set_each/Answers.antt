use Rattle.std.proofs.Common.{◌∙◌, ap}
use Rattle.std.specs.Prelude.{slice_set, slice_index_or}
use Rattle.ringcore.proofs.EntrySteps.{each_turn}
use Rattle.ringcore.proofs.places.set_each.Goals as goal

pub loop-k-preserved : goal.loop-k-preserved
loop-k-preserved c =
    c.set_place.ensures
    ∙ (ap (λ v. slice_set v (slice_index_or c.args.numbers.now c.loop-k.k 0) c.args.place) c.loop-k.invariant
    ∙ each_turn c.args.places.now c.args.numbers.now c.loop-k.k 0 c.args.place c.loop-k-test.true)
