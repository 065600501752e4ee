use Rattle.std.proofs.Common.{◌≤◌, rules, subst, sym, ◌∙◌}
use Rattle.ringcore_laws.proofs.Laws.{same_plan}
use Rattle.fabric.specs.Hands.{rings_of}
use Rattle.fabric.proofs.Told.{ring_at}
use Rattle.ringapi.specs.Takes.{IsTakeOf, IsUnfinishedTake, LeavesRoom, TakeHasTold}
use Rattle.ringapi.proofs.Taking.{plan_of, settle_more, take_again}
use Rattle.ringapi.proofs.take.again.Goals as goal

pub try_take-requires : goal.try_take-requires
try_take-requires g c =
    let is = c.in-Refused.is in
    let w = ring_at (rings_of c.args.f.now) c.args.ring c.requires.ring in
    let told = c.requires.exact w.0 w.1 in
    let before =
    subst (λ a. TakeHasTold g.T.Tagged.numbers c.args.how c.args.n c.args.ring w.0 told.0 a (g.I.Items.items c.args.into.now)) is told.1 in
    let b = c.requires.fits in
    let same = subst (λ a. LeavesRoom g.I.Items.beside b.0 a c.args.into.now) is b.1 in (
      search rules,
      (
        search rules,
        (
          subst (IsTakeOf c.args.f.now c.args.ring) is c.requires.made,
          (
            c.requires.ring,
            (λ m few most. subst (λ i. m ≤ g.I.TakeItems.room i) (sym same) (b.2 m few most), before.2.0),
          ),
        ),
      ),
    )

pub settle-requires : goal.settle-requires
settle-requires g c =
    let is = c.in-Open.is in
    let w = ring_at (rings_of c.args.f.now) c.args.ring c.requires.ring in
    let told = c.requires.exact w.0 w.1 in
    let before =
    subst (λ a. TakeHasTold g.T.Tagged.numbers c.args.how c.args.n c.args.ring w.0 told.0 a (g.I.Items.items c.args.into.now)) is told.1 in
    (search rules, (search rules, before.2.0))

pub returns-in-Refused-clause-exact : goal.returns-in-Refused-clause-exact
returns-in-Refused-clause-exact g c plan there v told =
    let tags = g.T.Tagged.numbers in
    let had = g.I.Items.items c.args.into.now in
    take_again g.row.N tags c.args.how c.args.n c.args.ring plan v c.in-Refused.hand c.in-Refused.field-1 had (g.I.Items.items c.try_take.new.into) c.try_take.result
    (subst IsUnfinishedTake c.in-Refused.is c.requires.unfinished) (subst (λ a. TakeHasTold tags c.args.how c.args.n c.args.ring plan v a had) c.in-Refused.is told) (c.try_take.ensures.taken.exact plan there)

pub returns-in-Open-clause-exact : goal.returns-in-Open-clause-exact
returns-in-Open-clause-exact g c plan there v told =
    let tags = g.T.Tagged.numbers in
    let had = g.I.Items.items c.args.into.now in
    let is = c.in-Open.is in
    let o = c.in-Open.span in
    let made = subst (IsTakeOf c.args.f.now c.args.ring) is c.requires.made in
    let at = plan_of o c.args.f.now c.args.ring made.0 made.1 in
    settle_more g.row.N tags c.args.how c.args.n c.args.ring plan v o c.in-Open.field-1 had (g.I.Items.items c.settle.new.items) c.settle.result made.1
    (same_plan (sym at ∙ there)) (subst (λ a. TakeHasTold tags c.args.how c.args.n c.args.ring plan v a had) is told) c.settle.ensures.settled

pub returns-in-Open-clause-true_refusal : goal.returns-in-Open-clause-true_refusal
returns-in-Open-clause-true_refusal g c plan there = c.settle.ensures.true_refusal c.args.ring plan
