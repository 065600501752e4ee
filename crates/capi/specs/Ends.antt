-- The ends of a hand: what they are
use Rattle.std.specs.Prelude.{◌≡◌, ℕ}
use Rattle.geom.specs.declared.plan.Mode.TheVariants.{Hts}
use Rattle.geom.specs.declared.plan.Side.{Side}
use Rattle.geom.specs.declared.plan.Side.TheVariants.{Put, Take}
use Rattle.fabric.specs.Places.{IsPlaceOf, place_mode}
use Rattle.capi.specs.Members.{Rings}
use Rattle.capi.specs.declared.rings.end.End.{End}
use Rattle.capi.specs.declared.rings.end.Ends.{Ends}
use Rattle.capi.specs.declared.rings.end.EndState.TheVariants.{Holds}

-- an end's ring is one of these, and its side is head/tail-sync if it holds it
abbrev pub IsEndOf : Rings → Side → End → Type 0
IsEndOf f side e = IsPlaceOf f e.at × ((n : ℕ) → e.state ≡ Holds n → place_mode e.at side ≡ Hts)

abbrev pub AreEndsOf : Rings → Ends → Type 0
AreEndsOf f e = IsEndOf f Put e.put × IsEndOf f Take e.take

abbrev pub end_on : Ends → Side → End
end_on e Put = e.put
end_on e Take = e.take

-- the same with another end on one side
abbrev pub with_end : Ends → Side → End → Ends
with_end e Put end = record e { put = end }
with_end e Take end = record e { take = end }
