-- What a call that moved items, and starts that were refused, leave of a hand
use Rattle.std.proofs.Common.{◌≡◌, ℕ, List, [], ◌∷◌, ap, ◌∙◌}
use Rattle.geom.specs.declared.plan.How.{How}
use Rattle.geom.specs.declared.plan.RingPlan.{RingPlan}
use Rattle.geom.specs.declared.plan.Side.{Side}
use Rattle.ringcore_laws.specs.FreeRings.{buffers_had}
use Rattle.ringcore_laws.specs.Party.{with_settled}
use Rattle.fabric_laws.specs.declared.view.View.{View}
use Rattle.fabric.specs.declared.hand.StartFault.{StartFault}
use Rattle.fabric.specs.Views.{span_of}
use Rattle.fabric.proofs.Told.{refused_kept}
use Rattle.ringapi.specs.Views.{IsMoved, RefusedStarts}
use Rattle.ringapi.proofs.Tries.{reserved_party, starts_kept}

module _ {T : Type 0} (tags : T → List ℕ) (most : ℕ) (how : How) (n ring : ℕ) (side : Side) (plan : RingPlan) where
  -- the party of the hand, after its span was settled
  pub moved_party : (v w : View T) (starts : List (View T × StartFault)) (count left : ℕ) (shown items : List T) (tails : List ℕ)
      → (is : IsMoved tags most how n ring side plan v starts count left shown tails items w)
      → w.party ≡ with_settled v.party (span_of ring side is.0 count) items
  moved_party v w starts count left shown items tails is =
      ap (λ (u : View T). u.party) is.3
      ∙ ap (λ p. with_settled p (span_of ring side is.0 count) items)
      (reserved_party tags most how n ring side plan v starts is.0 count left shown tails is.1 is.2)

module _ {T : Type 0} (tags : T → List ℕ) (most : ℕ) (how : How) (n ring : ℕ) (side : Side) (plan : RingPlan) where
  pool_before : (v : View T) (starts : List (View T × StartFault)) (w : View T) → RefusedStarts tags most how n ring side plan v starts w
      → w.pool ≡ v.pool
  pool_before v [] w is = ap (λ u. u.pool) is
  pool_before v (start ∷ before) w is =
      (refused_kept tags most how n ring side plan start.0 w start.1 is.0).pool ∙ pool_before v before start.0 is.2

  -- refused starts leave the hand as many buffers as it had
  pub had_before : (v : View T) (starts : List (View T × StartFault)) (w : View T) → RefusedStarts tags most how n ring side plan v starts w
      → buffers_had tags w.pool w.party ≡ buffers_had tags v.pool v.party
  had_before v starts w is = λ i. buffers_had tags (pool_before v starts w is i) (starts_kept tags most how n ring side plan v starts w is i)
