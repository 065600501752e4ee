-- Whether a plan has the actor and the ring of a step, as a test and as a statement
use Rattle.std.proofs.Common.{◌≡◌, ℕ, ◌<◌, length, Bool, true, false, ◌&&◌, refl, arith}
use Rattle.std.specs.Prelude.{IsTrue, nat_lt, ◌↔◌}
use Rattle.std.proofs.lemmas.Bool.Decides.{nat_tests}
use Rattle.ringcore_laws.specs.declared.protocol.Step.{Step}
use Rattle.ringcore_laws.specs.declared.protocol.Step.TheVariants.{Look, Room, Reserve, SettlePut, SettleTake, Stash, Unstash}
use Rattle.ringcore.specs.Runs.{IsOnRing}
use Rattle.ringcore.specs.Histories.{History, IsPlanned}
use Rattle.steps_file.specs.Replies.{has_both, is_on_ring}

below : (a b : ℕ) → nat_lt a b ≡ true → a < b
below a b is = grind (arith, nat_tests)

below_too : (a b : ℕ) → a < b → nat_lt a b ≡ true
below_too a b lt = grind (arith, nat_tests)

on_ring : (n : ℕ) (step : Step) → is_on_ring n step ≡ true → IsOnRing n step
on_ring n (Look ring side) is = below ring n is
on_ring n (Room ring side) is = below ring n is
on_ring n (Reserve ring side how count) is = below ring n is
on_ring n (SettlePut ring items) is = below ring n is
on_ring n (SettleTake ring count) is = below ring n is
on_ring n (Stash b) is = tt
on_ring n (Unstash b) is = tt

on_ring_too : (n : ℕ) (step : Step) → IsOnRing n step → is_on_ring n step ≡ true
on_ring_too n (Look ring side) lt = below_too ring n lt
on_ring_too n (Room ring side) lt = below_too ring n lt
on_ring_too n (Reserve ring side how count) lt = below_too ring n lt
on_ring_too n (SettlePut ring items) lt = below_too ring n lt
on_ring_too n (SettleTake ring count) lt = below_too ring n lt
on_ring_too n (Stash b) lt = refl
on_ring_too n (Unstash b) lt = refl

both : (a b : Bool) → (a && b) ≡ true → (a ≡ true) × (b ≡ true)
both true b is = (refl, is)
both false b is = absurd (let h : false ≡ true = is in cc)

both_too : (a b : Bool) → a ≡ true → b ≡ true → (a && b) ≡ true
both_too true b h is = is
both_too false b h is = absurd (let g : false ≡ true = h in cc)

same_truth : (a b : Bool) → (a ≡ true → b ≡ true) → (b ≡ true → a ≡ true) → a ≡ b
same_truth true true f g = refl
same_truth true false f g = absurd (let h : false ≡ true = f refl in cc)
same_truth false true f g = absurd (let h : false ≡ true = g refl in cc)
same_truth false false f g = refl

pub planned_is : (h : History) (actor : ℕ) (step : Step) (b : Bool) → (IsTrue b ↔ IsPlanned h actor step) → b ≡ has_both h actor step
planned_is h actor step b known =
    same_truth b (has_both h actor step)
    (λ is. both_too (nat_lt actor h.actors) (is_on_ring (length h.plans) step)
    (below_too actor h.actors (known.0 is).0) (on_ring_too (length h.plans) step (known.0 is).1))
    (λ is.
    let parts = both (nat_lt actor h.actors) (is_on_ring (length h.plans) step) is in
    known.1 (below actor h.actors parts.0, on_ring (length h.plans) step parts.1))
