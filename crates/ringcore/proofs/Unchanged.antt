-- A world with the same content agrees with the same histories
use Rattle.std.proofs.Common.{ℕ, ◌≡◌, ◌∙◌, List, sym, subst}
use Rattle.geom.specs.declared.plan.RingPlan.{RingPlan}
use Rattle.ringcore_laws.specs.declared.protocol.Place.{Place}
use Rattle.ringcore_laws.specs.History.{Actor}
use Rattle.ringcore.specs.declared.ring.Ring.{Ring}
use Rattle.ringcore.specs.declared.member.Member.{Member}
use Rattle.ringcore.specs.declared.world.World.{World}
use Rattle.ringcore.specs.Agree.{ListsAgree}
use Rattle.ringcore.specs.Histories.{AgreesWith, History, IsUnchanged, pool_size}
use Rattle.ringcore.specs.Planned.{world_rings}

pub same_agree : (plans : List RingPlan) (pool : ℕ) (rings new_rings : List Ring) (places new_places : List Place) (members new_members : List Member)
    (actors : List Actor) → (new_rings ≡ rings) × (new_places ≡ places) × (new_members ≡ members)
    → ListsAgree plans pool rings places members actors → ListsAgree plans pool new_rings new_places new_members actors
same_agree plans pool rings new_rings places new_places members new_members actors same agree =
    subst (λ (v : List Ring). ListsAgree plans pool v new_places new_members actors) (sym same.0)
    (subst (λ (v : List Place). ListsAgree plans pool rings v new_members actors) (sym same.1)
    (subst (λ (v : List Member). ListsAgree plans pool rings places v actors) (sym same.2) agree))

pub unchanged_agrees : (old new : World) → IsUnchanged old new → (h : History) → AgreesWith old h → AgreesWith new h
unchanged_agrees old new same h agree = record {
  plans = same.0 ∙ agree.plans;
  lists = same_agree h.plans (pool_size h) (world_rings old) (world_rings new) old.places.items new.places.items old.members.items new.members.items _
      (same.1, same.2, same.3) agree.lists;
}
