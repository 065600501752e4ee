use Rattle.std.proofs.Common.{[], ◌∷◌, ◌++◌, ap, subst, sym, ◌∙◌}
use Rattle.std.specs.Prelude.{slice_get}
use Rattle.std.specs.List.{flat_map}
use Rattle.burst.specs.Numbers.{AreDistinct}
use Rattle.geom.specs.declared.plan.Side.TheVariants.{Put}
use Rattle.ringcore_laws.specs.Party.{joined, with_open}
use Rattle.ringcore_laws.specs.Sound.{Sound, queue}
use Rattle.fabric.specs.Hands.{put_view, rings_of, view}
use Rattle.fabric.specs.Views.{span_of}
use Rattle.callers.proofs.SentItems.{one_sent, parts_again, sent, sent_apart}
use Rattle.fabric.proofs.Told.{ring_at}
use Rattle.callers.proofs.sent.send_and_close.Goals as goal

pub returns-clause-in_order : goal.returns-clause-in_order
returns-clause-in_order g c =
    let tags = g.T.Tagged.numbers in
    let v = view c.args.hand in
    let halves = c.in-Ok.ensures.split in
    let o = c.in-Ok-try_start_put.span in
    let plan = ring_at (rings_of c.args.fabric) 0 c.requires.ring in
    let started = c.in-Ok-try_start_put.ensures.started in
    let start = started.2 plan.0 plan.1 in
    let done = c.in-Ok-try_settle_from.ensures.done.0.2 in
    let w = view c.join-whole.result in
    let is = c.join-whole.ensures.hand.1 in
    let parts =
    parts_again v (view c.in-Ok.first) (put_view o) (view c.in-Ok-try_settle_from.sent) (view c.in-Ok.second) w halves.1 halves.3
    (ap (λ u. u.parts) start.view ∙ ap (λ u. u.parts) start.found.view) (ap (λ u. u.parts) done) is ∙ c.requires.only in
    let party =
    one_sent v (put_view o) w o.ring.index o.range.start o.range.count c.args.list.now started.1 c.requires.fresh
    (c.in-Ok-try_start_put.ensures.opened ∙ ap (λ u. with_open u.party (span_of o.ring.index Put o.range.start o.range.count)) halves.1)
    (ap (λ u. u.party) is ∙ (λ k. joined (done k).party (halves.3 k).party)) in
    c.close.ensures.all.1 parts 0 c.requires.ring
    ∙ (ap (λ p. queue (p ∷ []) 0) party
    ∙ sent (v.party.given ++ []) o.range.start tags w.plans w.pool plan.0 c.args.list.now
    (ap (λ ps. slice_get ps 0) c.join-whole.ensures.hand.0.1 ∙ plan.1)
    (subst (λ p. Sound tags w.plans w.pool (p ∷ [])) party (c.join-whole.ensures.whole parts)))

pub returns-clause-once : goal.returns-clause-once
returns-clause-once g c =
    let tags = g.T.Tagged.numbers in
    let o = c.in-Ok-try_start_put.span in
    subst (λ l. AreDistinct (flat_map tags l)) (sym (returns-clause-in_order g c))
    (sent_apart tags (put_view o) (view c.in-Ok-try_settle_from.sent) c.args.list.now o.share.well c.in-Ok-try_settle_from.ensures.owned)
