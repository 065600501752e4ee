use Rattle.std.proofs.Common.{◌<◌, ap, length, refl, subst, sym, take, ◌∙◌}
use Rattle.geom.specs.declared.plan.Side.TheVariants.{Take}
use Rattle.ringcore_laws.specs.Party.{with_settled}
use Rattle.fabric_laws.specs.Changes.{rest_of, settled}
use Rattle.fabric_laws.specs.Kinds.{IsHeldOnce}
use Rattle.fabric.specs.Owned.{IsRow}
use Rattle.fabric.specs.Views.{span_of}
use Rattle.fabric.proofs.Advancing.{advance_more, once_opened, row_opened, row_taken}
use Rattle.fabric.proofs.Holding.{take_row}
use Rattle.fabric.proofs.Told.{taken_apart}
use Rattle.fabric.proofs.ring.Ring.advance_take.Goals as goal

pub invariant_of-share : goal.invariant_of-share
invariant_of-share g c =
    let r = c.args.self.now in
    let h = c.args.share.now in
    let range = c.args.range.now in
    let tags = g.T.Tagged.numbers in
    let v = h.seat.me.0 in
    let k = c.args.k in
    let items = take k v.shown in
    let span = span_of r.index Take range.start range.count in
    let d = c.dequeue_first.ensures in
    let row = row_taken tags k v.shown (g.I.Items.items c.dequeue_first.new.into) h.owned c.own.new.owned d.items c.own.ensures in
    let after = once_opened tags v.pool (with_settled v.party span items) (rest_of span (length items))
    (subst (λ w. IsHeldOnce tags w.pool w.party) d.done.0 d.done.2) in
    record {
      counted = h.counted ∙ ap (λ w. w.parts) (sym d.done.0);
      alive = subst (λ w. 0 < w.parts) (sym d.done.0) h.alive;
      well = d.done.2;
      row = subst (λ w. IsRow tags w.pool w.party c.own.new.owned) (sym d.done.0)
          (row_opened tags v.pool (with_settled v.party span items) (rest_of span (length items)) c.own.new.owned
          (subst (IsRow tags v.pool (with_settled v.party span items)) (sym row)
          (take_row tags v.pool v.party h.owned h.row items r.index range.start range.count h.well after)));
    }

pub returns-clause-apart : goal.returns-clause-apart
returns-clause-apart g c =
    let r = c.args.self.now in
    let h = c.args.share.now in
    let range = c.args.range.now in
    let tags = g.T.Tagged.numbers in
    let v = h.seat.me.0 in
    let items = take c.args.k v.shown in
    let span = span_of r.index Take range.start range.count in
    let done = c.dequeue_first.ensures.done in
    taken_apart tags r.index range.start range.count items v (settled span items v) refl h.well
    (once_opened tags v.pool (with_settled v.party span items) (rest_of span (length items)) (subst (λ w. IsHeldOnce tags w.pool w.party) done.0 done.2))

pub returns-clause-owned : goal.returns-clause-owned
returns-clause-owned g c =
    let r = c.args.self.now in
    let h = c.args.share.now in
    let range = c.args.range.now in
    advance_more g.T.Tagged.numbers r.index range.start range.count h.seat.me.0 c.dequeue_first.new.seat.me.0 (take c.args.k h.seat.me.0.shown)
    c.dequeue_first.ensures.done.0 h.well
