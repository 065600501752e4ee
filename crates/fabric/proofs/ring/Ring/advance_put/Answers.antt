use Rattle.std.proofs.Common.{◌<◌, ap, arith, length, refl, rules, subst, sym, ◌∙◌}
use Rattle.geom.specs.declared.plan.Side.TheVariants.{Put}
use Rattle.ringcore_laws.specs.Party.{with_open, with_settled}
use Rattle.fabric_laws.specs.Changes.{rest_of}
use Rattle.fabric.specs.Views.{span_of}
use Rattle.fabric.specs.Owned.{IsRow}
use Rattle.fabric.proofs.Advancing.{advance_less, row_opened}
use Rattle.fabric.proofs.Holding.{not_yours, put_owns, put_row}
use Rattle.fabric.proofs.ring.Ring.advance_put.Goals as goal

pub returns-then-not-disown-clause-refused : goal.returns-then-not-disown-clause-refused
returns-then-not-disown-clause-refused g c =
    let h = c.args.share.now in (
      refl,
      refl,
      refl,
      (
        omega (arith, c.if-k-range.false, c.len-k.ensures.value),
        not_yours g.T.Tagged.numbers c.args.self.now.shape.now.plan h.seat.me.0 h.owned (g.I.Items.items c.args.items.now) h.row
            (c.disown.ensures.other c.if-not-disown.true),
        refl,
      ),
    )

pub publish_first-requires : goal.publish_first-requires
publish_first-requires g c =
    let h = c.args.share.now in
    let mine = c.disown.ensures.mine c.if-not-disown.false in (
      search rules,
      (
        c.requires.seat,
        (
          c.requires.hts,
          (
            omega (arith, c.if-k-range.false, c.len-k.ensures.value),
            (
              c.requires.span,
              (
                put_owns g.T.Tagged.numbers h.seat.me.0.pool h.seat.me.0.party h.owned h.row (g.I.Items.items c.args.items.now) mine.1,
                (mine.2, c.requires.slots),
              ),
            ),
          ),
        ),
      ),
    )

pub invariant_of-share-2 : goal.invariant_of-share-2
invariant_of-share-2 g c =
    let r = c.args.self.now in
    let h = c.args.share.now in
    let range = c.args.range.now in
    let tags = g.T.Tagged.numbers in
    let items = g.I.Items.items c.args.items.now in
    let span = span_of r.index Put range.start range.count in
    let mine = c.disown.ensures.mine c.if-not-disown.false in
    let done = c.publish_first.ensures.done in
    let row = put_row tags h.seat.me.0.pool h.seat.me.0.party h.owned h.row items r.index range.start range.count mine.1 in
    record {
      counted = h.counted ∙ ap (λ v. v.parts) (sym done.0);
      alive = subst (λ v. 0 < v.parts) (sym done.0) h.alive;
      well = done.2;
      row = subst (λ v. IsRow tags v.pool v.party c.disown.new.owned) (sym done.0)
          (subst (λ bits. IsRow tags h.seat.me.0.pool (with_open (with_settled h.seat.me.0.party span items) (rest_of span (length items))) bits)
          (sym mine.0) (row_opened tags h.seat.me.0.pool (with_settled h.seat.me.0.party span items) (rest_of span (length items)) _ row));
    }

pub returns-clause-owned : goal.returns-clause-owned
returns-clause-owned g c =
    let h = c.args.share.now in
    let range = c.args.range.now in
    let v = h.seat.me.0 in
    let items = g.I.Items.items c.args.items.now in
    advance_less g.T.Tagged.numbers c.args.self.now.index range.start range.count v c.publish_first.new.seat.me.0 items c.publish_first.ensures.done.0
    (put_owns g.T.Tagged.numbers v.pool v.party h.owned h.row items (c.disown.ensures.mine c.if-not-disown.false).1)
