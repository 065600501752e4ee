use Rattle.std.proofs.Common.{◌≡◌, ◌∙◌, ◌++◌, List, drop, length, ap, refl, subst, sym, take}
use Rattle.std.proofs.Math.Seq.{take-append_seam}
use Rattle.std.proofs.lemmas.Option.{get_or_from_slice_get}
use Rattle.geom.specs.declared.plan.RingPlan.{RingPlan}
use Rattle.ringcore.specs.Changes.{TakeResult}
use Rattle.ringcore.specs.Replies.{take_answer}
use Rattle.ringcore_laws.specs.declared.protocol.Place.{Place}
use Rattle.ringcore.specs.declared.ring.Ring.{Ring}
use Rattle.ringcore.specs.declared.member.Member.{Member}
use Rattle.ringcore.specs.declared.ring.PlannedRing.{PlannedRing}
use Rattle.ringcore.proofs.Planned.{plan_there, plans_kept, ring_set, ring_there}
use Rattle.ringcore.proofs.world.World.take_step.Goals as goal

pub returns-clause-settled : goal.returns-clause-settled
returns-clause-settled c =
    let old = c.args.self.now in
    let whole : take old.places.len (c.settle_take.new.places ++ drop (length c.settle_take.new.places) old.places.items) ≡ c.settle_take.new.places =
    ap (λ n. take n (c.settle_take.new.places ++ drop (length c.settle_take.new.places) old.places.items))
    (old.places.ok.0 ∙ (sym (ap length c.deref_mut.ensures.value) ∙ sym c.settle_take.auto.places))
    ∙ take-append_seam c.settle_take.new.places (drop (length c.settle_take.new.places) old.places.items) in
    λ m plan r hm hp hr.
    let new_places = take old.places.len (c.settle_take.new.places ++ drop (length c.settle_take.new.places) old.places.items) in
    let em : c.index_mut-2.result.now ≡ m = c.index_mut-2.ensures.value ∙ get_or_from_slice_get old.members.items c.args.actor m _ hm in
    let ep : c.index.result.now.plan ≡ plan = ap (λ (v : PlannedRing). v.plan) c.index.ensures ∙ plan_there old.rings.items c.args.ring plan _ hp in
    let es : c.deref_mut.result.now ≡ old.places.items = c.deref_mut.ensures.value in
    let er : c.index_mut.result.now.ring ≡ r = ap (λ (v : PlannedRing). v.ring) c.index_mut.ensures.value ∙ ring_there old.rings.items c.args.ring r _ hr in (
      c.settle_take.new.member,
      c.settle_take.new.ring,
      refl,
      ring_set old.rings.items c.args.ring _,
      subst (λ (v : Member). TakeResult plan v c.settle_take.new.member r c.settle_take.new.ring old.places.items new_places c.args.count
          c.in_ok-reply.reply) em
          (subst (λ (v : RingPlan). TakeResult v c.index_mut-2.result.now c.settle_take.new.member r c.settle_take.new.ring old.places.items new_places
          c.args.count c.in_ok-reply.reply) ep
          (subst (λ (v : Ring). TakeResult c.index.result.now.plan c.index_mut-2.result.now c.settle_take.new.member v c.settle_take.new.ring old.places.items
          new_places c.args.count c.in_ok-reply.reply) er
          (subst (λ (v : List Place). TakeResult c.index.result.now.plan c.index_mut-2.result.now c.settle_take.new.member c.index_mut.result.now.ring
          c.settle_take.new.ring v new_places c.args.count c.in_ok-reply.reply) es
          (subst (λ (v : List Place). TakeResult c.index.result.now.plan c.index_mut-2.result.now c.settle_take.new.member c.index_mut.result.now.ring
          c.settle_take.new.ring c.deref_mut.result.now v c.args.count c.in_ok-reply.reply) (sym whole) c.in_ok-reply.ensures.settled)))),
    )

pub returns-clause-kept : goal.returns-clause-kept
returns-clause-kept c =
    plans_kept c.args.self.now.rings.items c.args.ring _ (record c.index_mut.result.now { ring = c.settle_take.new.ring })
    (ap (λ (v : PlannedRing). v.plan) c.index_mut.ensures.value)

pub returns-clause-reply : goal.returns-clause-reply
returns-clause-reply c = λ m plan r hm hp hr.
    let old = c.args.self.now in
    let em : c.index_mut-2.result.now ≡ m = c.index_mut-2.ensures.value ∙ get_or_from_slice_get old.members.items c.args.actor m _ hm in
    let ep : c.index.result.now.plan ≡ plan = ap (λ (v : PlannedRing). v.plan) c.index.ensures ∙ plan_there old.rings.items c.args.ring plan _ hp in
    let er : c.index_mut.result.now.ring ≡ r = ap (λ (v : PlannedRing). v.ring) c.index_mut.ensures.value ∙ ring_there old.rings.items c.args.ring r _ hr in
    subst (λ (v : Member). c.in_ok-reply.reply ≡ take_answer plan c.args.ring r.take.tail r.queue.items c.args.count v.span) em
    (subst (λ (v : RingPlan). c.in_ok-reply.reply ≡ take_answer v c.args.ring r.take.tail r.queue.items c.args.count c.index_mut-2.result.now.span) ep
    (subst (λ (v : Ring). c.in_ok-reply.reply ≡ take_answer c.index.result.now.plan c.args.ring v.take.tail v.queue.items c.args.count
    c.index_mut-2.result.now.span) er c.in_ok-reply.ensures.reply))
