use Rattle.std.proofs.Common.{◌≡◌, ◌<◌, ◌++◌, List, [], None, Option, Some, ap, append-nil, arith, length, map, refl, replicate, rules, subst, sym, ℕ, ◌∙◌}
use Rattle.atomic_table.specs.Table.{Me}
use Rattle.geom.specs.declared.plan.Side.TheVariants.{Take}
use Rattle.ringcore_laws.specs.Party.{with_settled}
use Rattle.fabric_laws.specs.Kinds.{IsHeldOnce, IsReady, run}
use Rattle.fabric_laws.specs.declared.view.View.{View}
use Rattle.fabric_laws.specs.Words.{slot_at}
use Rattle.fabric.specs.Owned.{IsRow, marked}
use Rattle.fabric.specs.Hands.{rings_of}
use Rattle.fabric.specs.Rings.{slots_of}
use Rattle.fabric.specs.Views.{span_of}
use Rattle.fabric.specs.declared.hand.SettleFault.TheVariants.{NotYet}
use Rattle.fabric.specs.declared.ring.Positions.{Positions}
use Rattle.fabric.specs.declared.ring.Ring.{Ring}
use Rattle.fabric.proofs.Holding.{take_row}
use Rattle.fabric.proofs.Settling.{by_step, count_all, drop_some, ready_take}
use Rattle.fabric.proofs.Told.{unsettled}
use Rattle.fabric.proofs.Turns.{all_dropped, all_taken}
use Rattle.fabric.proofs.ring.Ring.settle_all_taken.Goals as goal

module _ {T : Type 0} {N : ℕ} {S : Type 0} (tags : T → List ℕ) (r : Ring T N S) (range : Positions) (me : Me (Option T) (View T)) where
  -- the items of the span are taken, and its slots are empty
  ready : length me.0.shown ≡ range.count → me.0.party.span ≡ Some (span_of r.index Take range.start range.count)
      → me.1 ≡ slots_of r range.start (replicate range.count None)
      → IsReady tags (rings_of r.fabric.now) r.shape.now.plan (span_of r.index Take range.start range.count) me.0.shown me
  ready whole span slots =
      let plans = r.fabric.now.plan.rings.items in
      let n = range.count in
      let shown = me.0.shown in
      let none = drop_some n shown ∙ ap (map Some) (all_dropped shown n (omega (arith, whole))) in
      let row = sym (append-nil (replicate n None)) ∙ ap (λ l. replicate n None ++ l) (sym none) in
      let has = slots ∙ ap (run (slot_at plans r.index r.shape.now.plan) range.start) row in
      let taken = ready_take tags plans r.shape.now.plan r.index range.start n me me refl n span whole (omega arith) has in
      let all = all_taken shown n (omega (arith, whole)) in
      subst (λ l. IsReady tags plans r.shape.now.plan (span_of r.index Take range.start n) l me) all taken

pub commit-requires : goal.commit-requires
commit-requires g c =
    let q = c.requires in
    let r = c.args.self.now in
    let me = c.args.share.now.seat.me in (
      search rules,
      (
        q.seat,
        (
          count_all r.shape.now.plan.take c.args.range.count,
          (me.0.shown, q.whole, ready g.T.Tagged.numbers r c.args.range me q.whole q.span q.slots),
        ),
      ),
    )

pub invariant_of-share : goal.invariant_of-share
invariant_of-share g c =
    let q = c.requires in
    let r = c.args.self.now in
    let h = c.args.share.now in
    let range = c.args.range in
    let tags = g.T.Tagged.numbers in
    let v = h.seat.me.0 in
    let is_ready = ready tags r range h.seat.me q.whole q.span q.slots in
    by_step c.commit.result _ _ c.commit.ensures.done c.commit.ensures.early
    (λ done.
    let t = done v.shown q.whole is_ready in
    let after = subst (λ w. IsHeldOnce tags w.pool w.party) t.0 t.2 in
    record {
      counted = h.counted ∙ ap (λ w. w.parts) (sym t.0);
      alive = subst (λ w. 0 < w.parts) (sym t.0) h.alive;
      well = t.2;
      row = subst (λ w. IsRow tags w.pool w.party h.owned) (sym t.0)
          (subst (λ (l : List ℕ). IsRow tags v.pool (with_settled v.party (span_of r.index Take range.start range.count) v.shown) (marked h.owned l)) q.plain
          (take_row tags v.pool v.party h.owned h.row v.shown r.index range.start range.count h.well after));
    })
    (λ x early. record {
      counted = h.counted ∙ ap (λ w. w.parts) (sym early.2);
      alive = subst (λ w. 0 < w.parts) (sym early.2) h.alive;
      well = subst (λ w. IsHeldOnce tags w.pool w.party) (sym early.2) h.well;
      row = subst (λ w. IsRow tags w.pool w.party h.owned) (sym early.2) h.row;
    })

pub returns-in-Some-clause-refused : goal.returns-in-Some-clause-refused
returns-in-Some-clause-refused g c =
    let r = c.args.self.now in
    let range = c.args.range in
    let early = c.in-Some.ensures.early in (
      early.3,
      unsettled g.T.Tagged.numbers r.shape.now.plan (span_of r.index Take range.start range.count) range.count [] c.args.share.now.seat.me.0
          c.commit.new.seat.me.0 (NotYet c.in-Some.tail)
          (early.0, refl, early.1, early.2, record { owned = λ b. omega arith; single = λ free. refl }) c.in-Some.ensures.true_refusal,
    )
