-- What closing rings does to what a handle has
use Rattle.std.specs.Prelude.{◌≡◌, Option, Ok, Err}
use Rattle.capi.specs.Codes.{Outcome}
use Rattle.capi.specs.Leftovers.{Closes, RefusesClose}
use Rattle.capi.specs.RingCalls.{SameMember}
use Rattle.capi.specs.declared.rings.member.Member.{Member}
use Rattle.capi.specs.Handles.{On}
use Rattle.capi.specs.HandCalls.{HasHand, HasLeftover, hand_in}
use Rattle.capi.specs.declared.object.Object.{Object}

-- a handle's rings are closed, or its hand is as it was
abbrev pub ClosesHand : Outcome → Member → Option Object → Type 0
ClosesHand (Ok count) m new = (count ≡ 0) × HasLeftover new (Closes m)
ClosesHand (Err why) m new = RefusesClose m why × HasHand new (SameMember m)

abbrev pub ClosesAt : Option Object → Option Object → Outcome → Type 0
ClosesAt old new outcome = On hand_in old new outcome (λ m. ClosesHand outcome m new)
