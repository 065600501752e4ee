use Rattle.std.proofs.Common.{rules, arith, suc, ◌≡◌, ◌∙◌, ◌+◌, ◌∷◌, [], ◌++◌, ℕ, ◌<◌, List, length, take, ap, refl, subst, sym}
use Rattle.std.specs.Prelude.{slice_index_or}
use Rattle.std.proofs.Math.Seq.{take-suc}
use Rattle.std.proofs.lemmas.List.{length-append}
use Rattle.std.proofs.lemmas.Option.{get_or_from_slice_get}
use Rattle.geom.specs.declared.plan.RingPlan.{RingPlan}
use Rattle.ringcore_laws.specs.declared.contents.Item.{Item}
use Rattle.ringcore_laws.proofs.Laws.{element}
use Rattle.ringcore.specs.Fifo.{Fifo}
use Rattle.ringcore.specs.Opening.{AreFresh, IsFresh}
use Rattle.ringcore.specs.declared.ring.PlannedRing.{PlannedRing}
use Rattle.ringcore.specs.declared.ring.Ring.{Ring}
use Rattle.ringcore.specs.Planned.{plans_in, rings_in}
use Rattle.ringcore.proofs.Planned.{plans_more, rings_more}
use Rattle.ringcore.proofs.OpeningSteps.{fresh_more}
use Rattle.ringcore.proofs.opening.fresh_rings.Goals as goal

-- the plan at an index, whatever the default
plan_at : (plans : List RingPlan) (k : ℕ) (plan p : RingPlan) → k < length plans → slice_index_or plans k plan ≡ slice_index_or plans k p
plan_at plans k plan p lt = let x = element plans k lt in get_or_from_slice_get plans k x.0 plan x.1 ∙ sym (get_or_from_slice_get plans k x.0 p x.1)

made : (plan : RingPlan) (ring : Ring) → ring.put.head ≡ 0 → ring.put.tail ≡ 0 → ring.take.head ≡ 0 → ring.take.tail ≡ 0
    → ring.queue ≡ record { capacity = plan.geometry.capacity; items = [] } → IsFresh plan ring
made plan ring put_head put_tail take_head take_tail queue = record {
  put_head = put_head;
  put_tail = put_tail;
  take_head = take_head;
  take_tail = take_tail;
  queue = ap (λ (v : Fifo Item). v.items) queue;
  capacity = ap (λ (v : Fifo Item). v.capacity) queue;
}

pub loop-k-preserved : goal.loop-k-preserved
loop-k-preserved c =
    let plans = c.args.plans.now in
    let plan = c.index-plans-k.result in
    let rings = c.loop-k.rings.items in
    let ring : Ring = record { put = record { head = 0; tail = 0 }; take = record { head = 0; tail = 0 }; queue = c.in_ok-queue.queue } in
    let planned : PlannedRing = record { plan = plan; ring = ring } in
    let next : suc c.loop-k.k ≡ c.loop-k.k + 1 = omega arith in
    let here : slice_index_or plans c.loop-k.k plan ≡ plan = search rules in
    let is : c.push.new.self.items ≡ rings ++ planned ∷ [] = c.in_ok-push.ensures.items in
    let more : rings_in c.push.new.self.items ≡ rings_in rings ++ ring ∷ [] = ap rings_in is ∙ rings_more rings planned in (
      ap length more ∙ (length-append (rings_in rings) (ring ∷ []) ∙ ap (λ n. n + 1) c.loop-k.invariant.0),
      ap plans_in is ∙ (plans_more rings planned ∙ (ap (λ (v : List RingPlan). v ++ planned.plan ∷ []) c.loop-k.invariant.1
          ∙ (ap (λ (v : RingPlan). take c.loop-k.k plans ++ v ∷ []) (sym here)
          ∙ (sym (take-suc plans c.loop-k.k plan c.loop-k-test.true) ∙ ap (λ n. take n plans) next)))),
      subst (λ (v : List Ring). AreFresh plans v) (sym more)
          (fresh_more plans (rings_in rings) c.loop-k.k ring c.loop-k.invariant.0 c.loop-k.invariant.2
          (λ p. subst (λ (v : RingPlan). IsFresh v ring) (plan_at plans c.loop-k.k plan p c.loop-k-test.true)
          (subst (λ (v : RingPlan). IsFresh v ring) (sym here) (made plan ring refl refl refl refl c.in_ok-queue.ensures)))),
    )
