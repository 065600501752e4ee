use Rattle.std.proofs.Common.{◌≡◌, ap, arith, length, subst, sym, take, ◌∙◌}
use Rattle.std.specs.List.{flat_map}
use Rattle.std.proofs.lemmas.List.{take_all}
use Rattle.burst.specs.Numbers.{AreDistinct}
use Rattle.fabric_laws.specs.Changes.{settled}
use Rattle.ringcore_laws.specs.declared.protocol.Span.{Span}
use Rattle.fabric.specs.declared.hand.SettleFault.TheVariants.{NotYet}
use Rattle.fabric.specs.Hands.{RefusesTake, take_span, take_view}
use Rattle.fabric.specs.Truths.{IsTrueTooEarly}
use Rattle.ringapi.proofs.take.settle.Goals as goal

pub returns-in-NotYet-clause-true_refusal : goal.returns-in-NotYet-clause-true_refusal
returns-in-NotYet-clause-true_refusal g c ring plan =
    let o = c.args.span in
    let tags = g.T.Tagged.numbers in
    let r = c.in-Err.ensures.refused in
    let early = subst (RefusesTake tags o c.count.result c.in-Err.span) c.in-NotYet.is r.2 in (
      take_view o,
      early.found.3,
      subst (λ (s : Span). IsTrueTooEarly tags s (take_view o) (NotYet c.in-NotYet.tail)) (sym r.0.1) early.others,
    )

pub returns-in-Ok-clause-settled : goal.returns-in-Ok-clause-settled
returns-in-Ok-clause-settled g c =
    let o = c.args.span in
    let items = g.I.Items.items c.args.items.now in
    let done = c.in-Ok.ensures.done in
    let long : length items ≡ c.count.result = ap length c.requires.shows ∙ (o.many ∙ sym c.count.ensures) in
    let whole : take c.count.result items ≡ items = take_all c.count.result items (omega (arith, long)) in
    let rest = done.1 ∙ (ap (g.I.Items.left items) (sym long) ∙ g.met.I.Items.whole items) in (
      done.0.0,
      done.0.2 ∙ ap (λ l. settled (take_span o) l (take_view o)) whole,
      long,
      c.count.ensures,
      c.left.ensures,
      rest,
      subst (λ l. AreDistinct (flat_map g.T.Tagged.numbers l)) (whole ∙ sym rest) c.in-Ok.ensures.apart,
    )
