use Rattle.std.proofs.Common.{length, refl}
use Rattle.std.specs.Prelude.{None}
use Rattle.geom.specs.declared.plan.Side.TheVariants.{Put}
use Rattle.ringcore_laws.specs.History.{after_all, opening}
use Rattle.ringcore_laws.specs.Refusals.{at_last_room}
use Rattle.ringcore_laws.specs.Runs.{history_of}
use Rattle.ringcore_laws.proofs.RefusalLaws.{never_no_room, standing_after}
use Rattle.ringcore_laws.proofs.headline.a_free_ring_has_room.Goals as goal

pub returns : goal.returns
returns c = λ plans actors gifts steps plan.
    let start = opening actors gifts in
    let events = history_of plans (length gifts) start steps in
    λ i ring how count room p there free.
    never_no_room plans (length gifts) (after_all start events) (λ j. at_last_room start None j events) (standing_after plans actors gifts steps plan)
    i ring Put how count p there room refl free ((plan.rings ring p there).free_rings free)
