use Rattle.std.proofs.Common.{◌≡◌, ◌<◌, ◌≤◌, length, take, sym, ap, ◌∙◌, subst, arith}
use Rattle.std.proofs.lemmas.List.{length-take}
use Rattle.geom.specs.declared.plan.Side.TheVariants.{Take}
use Rattle.fabric_laws.specs.Changes.{settled}
use Rattle.fabric.specs.Hands.{rings_of, take_left, take_view, view}
use Rattle.fabric.specs.Views.{span_of}
use Rattle.fabric.proofs.Told.{granted_few, ring_at}
use Rattle.ringapi.specs.Holdings.{HasMore}
use Rattle.ringapi.specs.Views.{by_burst}
use Rattle.stages.specs.Judging.{until_mark}
use Rattle.stages.specs.Numbers.{item_numbers}
use Rattle.stages.proofs.Marks.{cut_twice}
use Rattle.stages.proofs.Settled.{took_first}
use Rattle.stages.proofs.threads.worker.take_batch.Goals as goal

pub returns-in-Ok-finish_into-clause-at_most : goal.returns-in-Ok-finish_into-clause-at_most
returns-in-Ok-finish_into-clause-at_most g c =
    let low : 1 < length (rings_of c.args.f.now) = omega (arith, c.requires.rings.many) in
    let known = ring_at (rings_of c.args.f.now) 1 low in
    let span = c.in-Ok.peek.span in
    let started = c.in-Ok.ensures.started in
    let shown = c.peek_take_into.new.into in
    let k = c.first_part-k.result in
    let granted : span.range.count ≤ c.args.burst =
    subst (λ m. m ≤ c.args.burst) (sym (started.3 known.0 known.1).granted) (granted_few by_burst c.args.burst _) in
    let all : length shown ≡ span.range.count = ap length started.2 ∙ span.many in
    let some : length (take k shown) ≤ c.args.burst = omega (arith, granted, all, length-take k shown) in
    subst (λ items. length items ≤ c.args.burst) (sym c.in-Ok-finish_into.ensures.done.1) some

pub returns-in-Ok-finish_into-clause-part : goal.returns-in-Ok-finish_into-clause-part
returns-in-Ok-finish_into-clause-part g c =
    let cut : c.finish_into.new.items ≡ until_mark c.peek_take_into.new.into = c.in-Ok-finish_into.ensures.done.1 ∙ c.first_part-k.ensures.part in
    ap until_mark cut ∙ (cut_twice c.peek_take_into.new.into ∙ sym cut)

pub returns-in-Ok-finish_into-clause-more : goal.returns-in-Ok-finish_into-clause-more
returns-in-Ok-finish_into-clause-more g c =
    let low : 1 < length (rings_of c.args.f.now) = omega (arith, c.requires.rings.many) in
    let known = ring_at (rings_of c.args.f.now) 1 low in
    let span = c.in-Ok.peek.span in
    let started = c.in-Ok.ensures.started in
    let done = c.in-Ok-finish_into.ensures.done in
    let shown = c.peek_take_into.new.into in
    let k = c.first_part-k.result in
    let hand = c.in-Ok-finish_into.hand in
    let taken = subst (λ r. view hand ≡ settled (span_of r Take span.range.start span.range.count) (take k shown) (take_view span)) started.1 done.0.2 in
    let more = (took_first item_numbers by_burst c.args.burst 1 known.0 (view c.loop.hand) _ _ (take_left span) shown (take_view span) (view hand) k
    (view c.loop.hand).pool c.loop.hand.share.well (started.3 known.0 known.1) taken).1 in
    subst (λ items. HasMore item_numbers (view c.args.hand).party items (view hand).party) (sym done.1)
    (subst (λ p. HasMore item_numbers p (take k shown) (view hand).party) c.loop.invariant.party more)

pub returns-in-Err-default-Worn-clause-worn : goal.returns-in-Err-default-Worn-clause-worn
returns-in-Err-default-Worn-clause-worn g c =
    let low : 1 < length (rings_of c.args.f.now) = omega (arith, c.requires.rings.many) in
    let known = ring_at (rings_of c.args.f.now) 1 low in
    let e = c.in-Err-default-Worn in
    let r = e.ensures.refused in (r.0, (r.2 known.0 known.1).worn e.field-0-1-is)

pub loop-preserved : goal.loop-preserved
loop-preserved g c =
    let low : 1 < length (rings_of c.args.f.now) = omega (arith, c.requires.rings.many) in
    let known = ring_at (rings_of c.args.f.now) 1 low in
    let r = c.in-Err.ensures.refused in
    record {
      iterator = (tt, tt);
      hand = r.0;
      into = r.1;
      party = (r.2 known.0 known.1).kept.party ∙ c.loop.invariant.party;
    }
