use Rattle.std.proofs.Common.{◌++◌, None, Some, ap, append-nil, arith, drop, length, map, replicate, rules, sym, take, ◌∙◌}
use Rattle.geom.specs.declared.plan.Side.TheVariants.{Take}
use Rattle.fabric_laws.specs.Changes.{missed, settled}
use Rattle.fabric_laws.specs.Kinds.{run}
use Rattle.fabric_laws.specs.Words.{slot_at}
use Rattle.fabric.specs.Views.{span_of}
use Rattle.fabric.proofs.Seats.{seated_on}
use Rattle.fabric.proofs.Settling.{count_fits, count_whole, drop_some, ready_take, taken_long}
use Rattle.fabric.proofs.Truths.{earlier_on}
use Rattle.fabric.proofs.Turns.{all_dropped}
use Rattle.fabric.proofs.ring.Ring.dequeue.Goals as goal

pub commit-requires : goal.commit-requires
commit-requires g c =
    let q = c.requires in
    let r = c.args.self.now in
    let f = r.fabric.now in
    let n = c.args.range.count in
    let k = c.args.k in
    let shown = c.args.seat.now.me.0.shown in
    let slot = slot_at f.plan.rings.items r.index r.shape.now.plan in
    let many = sym (ap length q.shows) ∙ q.whole in
    let fits = count_fits r.shape.now.plan.take k n q.count in
    let has =
    c.keep.ensures.slots ∙ (ap (λ l. run slot c.args.range.start (replicate k None ++ map Some (drop k l))) q.shows
    ∙ ap (λ l. run slot c.args.range.start (replicate k None ++ l)) (sym (drop_some k shown))) in
    let ready =
    ready_take g.T.Tagged.numbers f.plan.rings.items r.shape.now.plan r.index c.args.range.start n c.args.seat.now.me c.keep.new.seat.me
    c.keep.ensures.seat.1 k q.span many fits has in (
      search rules,
      (
        seated_on r c.args.seat.now c.keep.new.seat q.seat c.keep.ensures.seat.0 c.keep.ensures.seat.1,
        (q.count, (take k shown, taken_long k shown (omega (arith, fits, many)), ready)),
      ),
    )

pub returns-in-None-clause-done : goal.returns-in-None-clause-done
returns-in-None-clause-done g c =
    let q = c.requires in
    let r = c.args.self.now in
    let f = r.fabric.now in
    let n = c.args.range.count in
    let k = c.args.k in
    let shown = c.args.seat.now.me.0.shown in
    let slot = slot_at f.plan.rings.items r.index r.shape.now.plan in
    let many = sym (ap length q.shows) ∙ q.whole in
    let fits = count_fits r.shape.now.plan.take k n q.count in
    let has =
    c.keep.ensures.slots ∙ (ap (λ l. run slot c.args.range.start (replicate k None ++ map Some (drop k l))) q.shows
    ∙ ap (λ l. run slot c.args.range.start (replicate k None ++ l)) (sym (drop_some k shown))) in
    let ready =
    ready_take g.T.Tagged.numbers f.plan.rings.items r.shape.now.plan r.index c.args.range.start n c.args.seat.now.me c.keep.new.seat.me
    c.keep.ensures.seat.1 k q.span many fits has in
    let t = c.in-None.ensures.done (take k shown) (taken_long k shown (omega (arith, fits, many))) ready in (
      t.0 ∙ ap (settled (span_of r.index Take c.args.range.start n) (take k shown)) c.keep.ensures.seat.1,
      t.1,
      t.2,
      c.keep.ensures.left,
      c.keep.ensures.front,
    )

pub returns-in-Some-clause-early : goal.returns-in-Some-clause-early
returns-in-Some-clause-early g c =
    let q = c.requires in
    let r = c.args.self.now in
    let n = c.args.range.count in
    let k = c.args.k in
    let items = g.I.Items.items c.args.items.now in
    let slot = slot_at r.fabric.now.plan.rings.items r.index r.shape.now.plan in
    let early = c.in-Some.ensures.early in
    let all = count_whole r.shape.now.plan.take k n early.0 q.count in
    let none = all_dropped items k (omega (arith, all, q.whole)) in
    let row =
    ap (λ l. replicate k None ++ map Some l) none ∙ (append-nil (replicate k None) ∙ ap (λ m. replicate m None) all) in (
      early.0,
      early.1,
      early.2 ∙ ap (missed c.in-Some.found) c.keep.ensures.seat.1,
      early.3 ∙ (c.keep.ensures.slots ∙ (ap (run slot c.args.range.start) row ∙ sym q.slots)),
      c.keep.ensures.all (all ∙ sym q.whole),
    )

pub returns-in-Some-clause-true_refusal : goal.returns-in-Some-clause-true_refusal
returns-in-Some-clause-true_refusal g c =
    earlier_on g.T.Tagged.numbers (span_of c.args.self.now.index Take c.args.range.start c.args.range.count) c.args.seat.now.me.0 c.keep.new.seat.me.0
    c.in-Some.found c.keep.ensures.seat.1 c.in-Some.ensures.true_refusal
