use Rattle.std.proofs.Common.{◌≡◌, ap, rules, sym, take, ◌∙◌}
use Rattle.fabric.specs.declared.hand.in_place.OpenSpan.TheVariants as open_span
use Rattle.capi.proofs.rings.span_calls.finish_take_of.Goals as goal

pub finish_take-requires-clause-shows : goal.finish_take-requires-clause-shows
finish_take-requires-clause-shows c = λ hts.
    let m = c.args.member.now in
    let r = c.in-Take.reserved in
    let is : m.port.hand.span ≡ open_span.Take r = search rules in
    let same : c.deref-in-Take.result.now ≡ m.shown.value = search rules in
    let shown = m.shows r is hts in
    (shown.0, ap (take r.range.count) same ∙ shown.1)

pub invariant_of-member-clause-shows : goal.invariant_of-member-clause-shows
invariant_of-member-clause-shows c = λ r is hts.
    let same : c.deref-in-Take.result.now ≡ c.args.member.now.shown.value = search rules in
    let shown = c.finish_take.ensures.shows r is hts in
    (shown.0, ap (take r.range.count) (sym same) ∙ shown.1)
