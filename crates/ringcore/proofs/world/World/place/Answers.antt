use Rattle.std.proofs.Common.{◌∙◌, List, ap}
use Rattle.ringcore_laws.specs.declared.protocol.Place.{Place}
use Rattle.ringcore.specs.Entries.{entry}
use Rattle.ringcore.proofs.PlaceSteps.{place_is}
use Rattle.ringcore.proofs.world.World.place.Goals as goal

pub returns : goal.returns
returns c = λ h agree right.
    c.place_at.ensures ∙ (ap (λ (v : List Place). entry v c.args.b) c.deref.ensures.value ∙ place_is c.args.self.now h agree c.args.b)
