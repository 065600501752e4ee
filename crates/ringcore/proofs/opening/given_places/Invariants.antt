use Rattle.std.proofs.Common.{◌≡◌, map, take}
use Rattle.ringcore_laws.specs.declared.protocol.Place.TheVariants.{Held}
use Rattle.ringcore.proofs.opening.given_places.Given as goal

abbrev pub invariant-loop-b : goal.invariant-loop-b
invariant-loop-b l = l.places.items ≡ map (λ g. Held g) (take l.b l.gifts)
