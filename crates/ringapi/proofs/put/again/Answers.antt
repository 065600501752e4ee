use Rattle.std.proofs.Common.{rules, subst, sym, ◌∙◌}
use Rattle.ringcore_laws.proofs.Laws.{same_plan}
use Rattle.ringapi.specs.Puts.{IsPutOf, IsUnfinishedPut, PutHasTold, left_of}
use Rattle.ringapi.proofs.Again.{open_first, put_again, refused_yours, settle_more}
use Rattle.ringapi.proofs.Putting.{plan_of}
use Rattle.ringapi.proofs.put.again.Goals as goal

pub try_put_own-requires : goal.try_put_own-requires
try_put_own-requires g c =
    let tags = g.T.Tagged.numbers in
    let items = g.I.Items.items c.args.list.now in
    let is = c.in-Refused.is in (
      search rules,
      (
        search rules,
        (
          subst (IsPutOf c.args.f.now c.args.ring) is c.requires.made,
          (
            c.requires.ring,
            λ plan there.
                let told = c.requires.exact plan there in
                refused_yours g.row.N tags c.args.how c.args.ring plan told.0 items c.in-Refused.hand c.in-Refused.field-1 items
                (subst IsUnfinishedPut is c.requires.unfinished)
                (subst (λ a. PutHasTold tags c.args.how c.args.ring plan told.0 items a (left_of a items)) is told.1),
          ),
        ),
      ),
    )

pub settle-requires : goal.settle-requires
settle-requires g c =
    let tags = g.T.Tagged.numbers in
    let items = g.I.Items.items c.args.list.now in
    let is = c.in-Open.is in
    let o = c.in-Open.span in
    let made = subst (IsPutOf c.args.f.now c.args.ring) is c.requires.made in
    let at = plan_of o c.args.f.now c.args.ring made.0 made.1 in
    let told = c.requires.exact o.ring.shape.now.plan at in
    let first = open_first g.row.N tags c.args.how c.args.ring o.ring.shape.now.plan told.0 items o c.in-Open.field-1 items
    (subst (λ a. PutHasTold tags c.args.how c.args.ring o.ring.shape.now.plan told.0 items a (left_of a items)) is told.1) made.1 in
    (search rules, (search rules, (first.0, first.1)))

pub returns-in-Refused-clause-exact : goal.returns-in-Refused-clause-exact
returns-in-Refused-clause-exact g c plan there v told =
    let tags = g.T.Tagged.numbers in
    let items = g.I.Items.items c.args.list.now in
    let is = c.in-Refused.is in
    put_again g.row.N tags c.args.how c.args.ring plan v items c.in-Refused.hand c.in-Refused.field-1 items (left_of c.try_put_own.result items) c.try_put_own.result
    (subst IsUnfinishedPut is c.requires.unfinished)
    (subst (λ a. PutHasTold tags c.args.how c.args.ring plan v items a (left_of a items)) is told)
    (c.try_put_own.ensures.exact plan there)

pub returns-in-Open-clause-exact : goal.returns-in-Open-clause-exact
returns-in-Open-clause-exact g c plan there v told =
    let tags = g.T.Tagged.numbers in
    let items = g.I.Items.items c.args.list.now in
    let is = c.in-Open.is in
    let o = c.in-Open.span in
    let made = subst (IsPutOf c.args.f.now c.args.ring) is c.requires.made in
    let at = plan_of o c.args.f.now c.args.ring made.0 made.1 in
    settle_more g.row.N tags c.args.how c.args.ring plan v items o c.in-Open.field-1 items (left_of c.settle.result items) c.settle.result made.1
    (same_plan (sym at ∙ there))
    (subst (λ a. PutHasTold tags c.args.how c.args.ring plan v items a (left_of a items)) is told) c.settle.ensures.settled

pub returns-in-Open-clause-true_refusal : goal.returns-in-Open-clause-true_refusal
returns-in-Open-clause-true_refusal g c plan there = c.settle.ensures.true_refusal c.args.ring plan
