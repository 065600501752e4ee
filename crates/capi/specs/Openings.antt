-- Opening rings
use Rattle.std.specs.Prelude.{◌≡◌, ◌⊎◌, List, []}
use Rattle.geom.specs.declared.plan.RingPlan.{RingPlan}
use Rattle.fabric_laws.specs.Changes.{newborn}
use Rattle.fabric_laws.specs.Rule.{all_parts}
use Rattle.fabric.specs.Making.{WordsMayStand}
use Rattle.fabric.specs.Hands.{rings_of}
use Rattle.capi.specs.Plans.{AreAsked}
use Rattle.capi.specs.RingCalls.{member_view}
use Rattle.capi.specs.declared.rings.fault.Fault.{Fault}
use Rattle.capi.specs.declared.rings.fault.Fault.TheVariants as fault
use Rattle.capi.specs.declared.rings.member.Member.{Member}
use Rattle.capi.specs.declared.rings.opening.Asked.{Asked}

-- a hand on new rings: they are as asked, and it has all parts and has done nothing
pub record IsNewHand (asked : List Asked) (m : Member) : Type 0 where
  pub plans : AreAsked asked (rings_of m.port.fabric.value)
  pub view : member_view m ≡ newborn (rings_of m.port.fabric.value) 0 all_parts []

-- such rings can't be, or there was no memory
abbrev pub RefusesRings : List Asked → Fault → Type 0
RefusesRings asked why =
    ((why ≡ fault.Plan) × ((plans : List RingPlan) → AreAsked asked plans → WordsMayStand plans 0 4095 → ⊥))
    ⊎ (why ≡ fault.Memory)
