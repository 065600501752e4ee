use Rattle.std.proofs.Common.{ap, length, subst, sym, take, ◌∙◌}
use Rattle.std.proofs.lemmas.List.{length-take-le}
use Rattle.ringcore_laws.specs.declared.protocol.Span.{Span}
use Rattle.fabric.specs.declared.hand.SettleFault.TheVariants.{NotYet}
use Rattle.fabric.specs.Hands.{RefusesPut, put_span, put_view}
use Rattle.fabric.specs.Settles.{AreYours}
use Rattle.fabric.specs.Truths.{IsTrueTooEarly}
use Rattle.ringapi.proofs.Putting.{only_early}
use Rattle.ringapi.proofs.put.settle.Goals as goal

pub unreachable-requires : goal.unreachable-requires
unreachable-requires g c =
    let o = c.args.span in
    let items = (g.I.Items.items c.args.list.now) in
    let k = c.count.result in
    let plan = o.ring.shape.now.plan in
    let first = take k items in
    let long = length-take-le (put_span o).count items c.requires.fits in
    only_early g.T.Tagged.numbers plan.put plan (length first) (put_span o).count (put_span o).start first (put_view o) (put_view c.in-Err.span) c.in-Err.fault
    (ap (λ n. length (take n items)) c.count.ensures ∙ long) c.in-Err.ensures.refused.2.found
    (subst (λ n. AreYours g.T.Tagged.numbers plan (put_view o) (take n items)) (sym c.count.ensures) c.requires.yours)
    c.in_default.not-NotYet

pub returns-in-NotYet-clause-true_refusal : goal.returns-in-NotYet-clause-true_refusal
returns-in-NotYet-clause-true_refusal g c ring plan =
    let o = c.args.span in
    let tags = g.T.Tagged.numbers in
    let r = c.in-Err.ensures.refused in
    let early = subst (RefusesPut tags o (take c.count.result (g.I.Items.items c.args.list.now)) c.in-Err.span) c.in-NotYet.is r.2 in (
      put_view o,
      early.found.3,
      subst (λ (s : Span). IsTrueTooEarly tags s (put_view o) (NotYet c.in-NotYet.tail)) (sym r.0.1) early.others,
    )
