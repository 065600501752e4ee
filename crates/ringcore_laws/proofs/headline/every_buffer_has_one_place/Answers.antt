use Rattle.ringcore_laws.proofs.PlaceLaws.{no_place_after, one_place_after}
use Rattle.ringcore_laws.proofs.headline.every_buffer_has_one_place.Goals as goal

pub returns-clause-one : goal.returns-clause-one
returns-clause-one c = one_place_after

pub returns-clause-none : goal.returns-clause-none
returns-clause-none c = no_place_after
