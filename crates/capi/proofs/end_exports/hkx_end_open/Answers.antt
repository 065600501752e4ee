use Rattle.std.proofs.Common.{◌∙◌, rules, subst, sym}
use Rattle.geom.specs.declared.plan.Side.{Side}
use Rattle.capi.specs.Codes.{Outcome}
use Rattle.capi.specs.EndCalls.{EndOpens}
use Rattle.capi.specs.RingCalls.{room_side}
use Rattle.capi.specs.HandCalls.{AtHand, hand_in}
use Rattle.capi.specs.declared.rings.member.Member.{Member}
use Rattle.capi.proofs.Slots.{at_none, at_one, at_other}
use Rattle.capi.specs.declared.object.Object.TheVariants as object
use Rattle.capi.proofs.end_exports.hkx_end_open.Goals as goal
use Rattle.capi.proofs.end_exports.hkx_end_open.Goals.{in-Some, in-Some-Hand, in-Some-deref_mut, in-None-deref_mut, in-None}

pub returns : goal.returns
returns c =
    let h = c.args.h.now.value in
    let g = c.match-borrow.h.value in
    let outcome = c.match-borrow.outcome in
    let does : Member → Member → Outcome → Type 0 = EndOpens (room_side c.args.takes) c.args.ring in
    let done : AtHand h g does outcome =
    elim c.match-borrow.branch [
      | in-Some w ↦ elim w.match-deref_mut.branch [
        | in-Some-Hand w' ↦
            let m = w'.in-Some-Hand.member in
            let u = w'.open_end-outcome.new.member in
            let moved : does m u outcome = subst (λ (z : Side × Outcome). EndOpens z.0 c.args.ring m u z.1)
            (λ i. (w'.side_of.ensures i, sym (w.outcome-is ∙ w'.outcome-is) i)) w'.open_end-outcome.ensures in
            at_one hand_in does h g outcome (object.Hand m) (object.Hand u) m u (search rules) (search rules) (search rules) (search rules) moved
        | in-Some-deref_mut w' ↦ at_other hand_in does h g outcome w'.in-Some-deref_mut.field-0 (search rules) (search rules) (search rules) (search rules)
        | in-None-deref_mut w' ↦ at_none hand_in does h g outcome (search rules) (search rules) (search rules)
      ]
      | in-None w ↦ at_none hand_in does h g outcome (search rules) (search rules) (search rules)
    ] in
    (outcome, search rules, done)
