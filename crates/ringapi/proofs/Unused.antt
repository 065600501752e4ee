-- Hands that have done nothing stay so when they are split
use Rattle.std.proofs.Common.{ℕ, ◌-◌, ◌/◌, List, [], ◌≡◌, ◌∙◌, ap, refl, subst, sym}
use Rattle.geom.specs.declared.plan.RingPlan.{RingPlan}
use Rattle.fabric_laws.specs.declared.view.View.{View}
use Rattle.fabric_laws.specs.Changes.{kept, newborn, split_off}
use Rattle.ringapi.specs.Spares.{IsUnused}

module _ {T : Type 0} where
  pub unused_newborn : (w : View T) (plans : List RingPlan) (pool parts : ℕ) → w ≡ newborn plans pool parts [] → IsUnused w
  unused_newborn w plans pool parts same = subst IsUnused (sym same) refl

  pub unused_kept : (v w : View T) → IsUnused v → w ≡ kept v → IsUnused w
  unused_kept v w unused same =
      unused_newborn w v.plans v.pool (v.parts - v.parts / 2) (same ∙ ap kept unused)

  pub unused_split : (v w : View T) → w ≡ split_off v → IsUnused w
  unused_split v w same = unused_newborn w v.plans v.pool (v.parts / 2) same
