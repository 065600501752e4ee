use Rattle.std.proofs.Common.{◌≡◌, ◌∙◌, ap, subst}
use Rattle.std.specs.Prelude.{is_some, slice_set, if◌then◌else◌}
use Rattle.std.proofs.lemmas.Option.{get_or_from_slice_get}
use Rattle.geom.specs.Plan.{mode_of}
use Rattle.geom.specs.declared.plan.RingPlan.{RingPlan}
use Rattle.ringcore_laws.specs.HeadTailRule.{RuledSide}
use Rattle.ringcore_laws.specs.History.{reserve_seen, seen_on}
use Rattle.ringcore_laws.specs.declared.protocol.Reply.TheVariants.{NoSpan}
use Rattle.ringcore.specs.Agree.{WordsAgree}
use Rattle.ringcore.specs.Changes.{member_tried, ring_tried, side_words}
use Rattle.ringcore.specs.Replies.{TailFits}
use Rattle.ringcore.specs.declared.ring.Ring.{Ring}
use Rattle.ringcore.specs.declared.member.Member.{Member}
use Rattle.ringcore.specs.declared.ring.PlannedRing.{PlannedRing}
use Rattle.ringcore.specs.Planned.{rings_in}
use Rattle.ringcore.proofs.Planned.{plan_there, plans_kept, ring_set, ring_there}
use Rattle.ringcore.proofs.world.World.reserve_step.Goals as goal

pub returns-clause-reply : goal.returns-clause-reply
returns-clause-reply c = λ m plan r hm hp hr l.
    let em : c.index_mut-2.result.now ≡ m = c.index_mut-2.ensures.value ∙ get_or_from_slice_get c.args.self.now.members.items c.args.actor m _ hm in
    let ep : c.index.result.now.plan ≡ plan = ap (λ (v : PlannedRing). v.plan) c.index.ensures ∙ plan_there c.args.self.now.rings.items c.args.ring plan _ hp in
    let er : c.index_mut.result.now.ring ≡ r = ap (λ (v : PlannedRing). v.ring) c.index_mut.ensures.value
    ∙ ring_there c.args.self.now.rings.items c.args.ring r _ hr in
    subst (λ (v : Member). RuledSide plan.geometry (mode_of plan c.args.side) l → WordsAgree (mode_of plan c.args.side) l (side_words r c.args.side)
    → TailFits plan v.observed
    → c.reserve.result ≡ (if is_some v.span then NoSpan else reserve_seen plan c.args.side c.args.how c.args.count l v.count
    (seen_on c.args.ring c.args.side v.observed))) em
    (subst (λ (p : RingPlan). RuledSide p.geometry (mode_of p c.args.side) l → WordsAgree (mode_of p c.args.side) l (side_words r c.args.side)
    → TailFits p c.index_mut-2.result.now.observed
    → c.reserve.result ≡ (if is_some c.index_mut-2.result.now.span then NoSpan
    else reserve_seen p c.args.side c.args.how c.args.count l c.index_mut-2.result.now.count
    (seen_on c.args.ring c.args.side c.index_mut-2.result.now.observed))) ep
    (subst (λ (x : Ring). RuledSide c.index.result.now.plan.geometry (mode_of c.index.result.now.plan c.args.side) l
    → WordsAgree (mode_of c.index.result.now.plan c.args.side) l (side_words x c.args.side) → TailFits c.index.result.now.plan c.index_mut-2.result.now.observed
    → c.reserve.result ≡ (if is_some c.index_mut-2.result.now.span then NoSpan
    else reserve_seen c.index.result.now.plan c.args.side c.args.how c.args.count l c.index_mut-2.result.now.count
    (seen_on c.args.ring c.args.side c.index_mut-2.result.now.observed))) er
    (c.reserve.ensures.reply l)))

pub returns-clause-kept : goal.returns-clause-kept
returns-clause-kept c =
    plans_kept c.args.self.now.rings.items c.args.ring _ (record c.index_mut.result.now { ring = c.reserve.new.ring })
    (ap (λ (v : PlannedRing). v.plan) c.index_mut.ensures.value)

pub returns-clause-ring : goal.returns-clause-ring
returns-clause-ring c = λ r hr.
    let rings = c.args.self.now.rings.items in
    let er : c.index_mut.result.now.ring ≡ r = ap (λ (v : PlannedRing). v.ring) c.index_mut.ensures.value ∙ ring_there rings c.args.ring r _ hr in
    ring_set rings c.args.ring _
    ∙ ap (λ (v : Ring). slice_set (rings_in rings) c.args.ring v)
    (c.reserve.ensures.ring ∙ ap (λ (v : Ring). ring_tried v c.args.side c.reserve.result) er)

pub returns-clause-member : goal.returns-clause-member
returns-clause-member c = λ m hm.
    let members = c.args.self.now.members.items in
    let em : c.index_mut-2.result.now ≡ m = c.index_mut-2.ensures.value ∙ get_or_from_slice_get members c.args.actor m _ hm in
    ap (λ (v : Member). slice_set members c.args.actor v)
    (c.reserve.ensures.member ∙ ap (λ (v : Member). member_tried v c.args.ring c.args.side c.reserve.result) em)
