use Rattle.std.proofs.Common.{◌≡◌, ◌∙◌, ◌++◌, List, drop, length, ap, refl, subst, sym, take}
use Rattle.std.proofs.Math.Seq.{take-append_seam}
use Rattle.std.proofs.lemmas.Option.{get_or_from_slice_get}
use Rattle.geom.specs.declared.plan.RingPlan.{RingPlan}
use Rattle.ringcore.specs.Changes.{PutResult}
use Rattle.ringcore.specs.Replies.{put_answer}
use Rattle.ringcore_laws.specs.declared.protocol.Place.{Place}
use Rattle.ringcore.specs.declared.ring.Ring.{Ring}
use Rattle.ringcore.specs.declared.member.Member.{Member}
use Rattle.ringcore.specs.declared.ring.PlannedRing.{PlannedRing}
use Rattle.ringcore.proofs.Planned.{plan_there, plans_kept, ring_set, ring_there}
use Rattle.ringcore.proofs.world.World.put_step.Goals as goal

pub returns-clause-reply : goal.returns-clause-reply
returns-clause-reply c = λ m plan r hm hp hr.
    let old = c.args.self.now in
    let em : c.index_mut-2.result.now ≡ m = c.index_mut-2.ensures.value ∙ get_or_from_slice_get old.members.items c.args.actor m _ hm in
    let ep : c.index.result.now.plan ≡ plan = ap (λ (v : PlannedRing). v.plan) c.index.ensures ∙ plan_there old.rings.items c.args.ring plan _ hp in
    let es : c.deref_mut.result.now ≡ old.places.items = c.deref_mut.ensures.value in
    let er : c.index_mut.result.now.ring ≡ r = ap (λ (v : PlannedRing). v.ring) c.index_mut.ensures.value ∙ ring_there old.rings.items c.args.ring r _ hr in
    subst (λ (v : Member). c.settle_put.result ≡ put_answer plan c.args.ring r.put.tail v.number old.places.items c.args.items v.span) em
    (subst (λ (v : RingPlan). c.settle_put.result
    ≡ put_answer v c.args.ring r.put.tail c.index_mut-2.result.now.number old.places.items c.args.items c.index_mut-2.result.now.span) ep
    (subst (λ (v : Ring). c.settle_put.result
    ≡ put_answer c.index.result.now.plan c.args.ring v.put.tail c.index_mut-2.result.now.number old.places.items c.args.items c.index_mut-2.result.now.span) er
    (subst (λ (v : List Place). c.settle_put.result ≡ put_answer c.index.result.now.plan c.args.ring c.index_mut.result.now.ring.put.tail
    c.index_mut-2.result.now.number v c.args.items c.index_mut-2.result.now.span) es c.settle_put.ensures.reply)))

pub returns-clause-settled : goal.returns-clause-settled
returns-clause-settled c =
    let old = c.args.self.now in
    let whole : take old.places.len (c.settle_put.new.places ++ drop (length c.settle_put.new.places) old.places.items) ≡ c.settle_put.new.places =
    ap (λ n. take n (c.settle_put.new.places ++ drop (length c.settle_put.new.places) old.places.items))
    (old.places.ok.0 ∙ (sym (ap length c.deref_mut.ensures.value) ∙ sym c.settle_put.auto.places))
    ∙ take-append_seam c.settle_put.new.places (drop (length c.settle_put.new.places) old.places.items) in
    λ m plan r hm hp hr.
    let new_places = take old.places.len (c.settle_put.new.places ++ drop (length c.settle_put.new.places) old.places.items) in
    let em : c.index_mut-2.result.now ≡ m = c.index_mut-2.ensures.value ∙ get_or_from_slice_get old.members.items c.args.actor m _ hm in
    let ep : c.index.result.now.plan ≡ plan = ap (λ (v : PlannedRing). v.plan) c.index.ensures ∙ plan_there old.rings.items c.args.ring plan _ hp in
    let es : c.deref_mut.result.now ≡ old.places.items = c.deref_mut.ensures.value in
    let er : c.index_mut.result.now.ring ≡ r = ap (λ (v : PlannedRing). v.ring) c.index_mut.ensures.value ∙ ring_there old.rings.items c.args.ring r _ hr in (
      c.settle_put.new.member,
      c.settle_put.new.ring,
      refl,
      ring_set old.rings.items c.args.ring _,
      subst (λ (v : Member). PutResult plan c.args.ring v c.settle_put.new.member r c.settle_put.new.ring old.places.items new_places c.args.items
          c.settle_put.result) em
          (subst (λ (v : RingPlan). PutResult v c.args.ring c.index_mut-2.result.now c.settle_put.new.member r c.settle_put.new.ring old.places.items new_places
          c.args.items c.settle_put.result) ep
          (subst (λ (v : Ring). PutResult c.index.result.now.plan c.args.ring c.index_mut-2.result.now c.settle_put.new.member v c.settle_put.new.ring
          old.places.items new_places c.args.items c.settle_put.result) er
          (subst (λ (v : List Place). PutResult c.index.result.now.plan c.args.ring c.index_mut-2.result.now c.settle_put.new.member c.index_mut.result.now.ring
          c.settle_put.new.ring v new_places c.args.items c.settle_put.result) es
          (subst (λ (v : List Place). PutResult c.index.result.now.plan c.args.ring c.index_mut-2.result.now c.settle_put.new.member c.index_mut.result.now.ring
          c.settle_put.new.ring c.deref_mut.result.now v c.args.items c.settle_put.result) (sym whole) c.settle_put.ensures.settled)))),
    )

pub returns-clause-kept : goal.returns-clause-kept
returns-clause-kept c =
    plans_kept c.args.self.now.rings.items c.args.ring _ (record c.index_mut.result.now { ring = c.settle_put.new.ring })
    (ap (λ (v : PlannedRing). v.plan) c.index_mut.ensures.value)
