-- What opening, splitting and looking at hands does to handles
use Rattle.std.specs.Prelude.{◌≡◌, ◌⊎◌, List, Option, None, Ok, Err}
use Rattle.capi.specs.Codes.{Outcome}
use Rattle.capi.specs.HandCalls.{HasHand, HasNoHand}
use Rattle.capi.specs.Openings.{IsNewHand, RefusesRings}
use Rattle.capi.specs.RingCalls.{LikeMember, RefusesSplit, Splits}
use Rattle.capi.specs.declared.rings.fault.Fault.TheVariants as fault
use Rattle.capi.specs.declared.object.Object.{Object}
use Rattle.capi.specs.declared.rings.opening.Asked.{Asked}

-- a hand on new rings is in the handle, which was empty
abbrev pub OpensHand : Outcome → List Asked → Option Object → Option Object → Type 0
OpensHand (Ok count) asked old new = (count ≡ 0) × (old ≡ None) × HasHand new (IsNewHand asked)
OpensHand (Err why) asked old new = (new ≡ old) × ((why ≡ fault.Used) ⊎ ((old ≡ None) × RefusesRings asked why))

-- the hand of the first handle was split, and the second half is in the second
abbrev pub SplitsHand : Outcome → Option Object → Option Object → Option Object → Type 0
SplitsHand (Ok count) old new second =
    (count ≡ 0) × HasHand old (λ m. HasHand new (λ u. HasHand second (λ other. Splits m u other)))
SplitsHand (Err why) old new second = (second ≡ None)
    × ((HasNoHand old why × (new ≡ old)) ⊎ HasHand old (λ m. HasHand new (λ u. LikeMember m u × RefusesSplit m why)))

abbrev pub SplitsAt : Outcome → Option Object → Option Object → Option Object → Option Object → Type 0
SplitsAt (Ok count) old new second_old second_new = (second_old ≡ None) × SplitsHand (Ok count) old new second_new
SplitsAt (Err why) old new second_old second_new = (second_new ≡ second_old)
    × ((((why ≡ fault.Used) ⊎ (why ≡ fault.Memory)) × (new ≡ old)) ⊎ SplitsHand (Err why) old new None)
