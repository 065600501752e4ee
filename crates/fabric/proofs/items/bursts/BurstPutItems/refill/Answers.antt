use Rattle.std.proofs.Common.{◌++◌, ap, drop, length, map, replicate, rules, sym, None, Some, ◌∙◌}
use Rattle.burst.specs.Items.{somes}
use Rattle.fabric_laws.specs.Kinds.{run}
use Rattle.fabric_laws.proofs.Cells.{length-cells}
use Rattle.fabric.specs.Shapes.{shape_slot}
use Rattle.fabric.specs.Slots.{values}
use Rattle.fabric.proofs.Blocks.{all_in_front, none_behind, same_words}
use Rattle.fabric.proofs.items.bursts.BurstPutItems.refill.Goals as goal

pub take_out-requires : goal.take_out-requires
take_out-requires g c =
    let q = c.requires in
    let row = c.args.seat.now.me.1 in
    let items = somes (values row) in
    let many = sym (ap length q.packed ∙ length-cells items) ∙ q.held.0 in
    let is = q.held.1 ∙ ap (run (shape_slot c.args.shape.now) c.args.start) q.packed in
    let blank = c.self.invariant ∙ (ap (map Some) c.self.view_is ∙ ap (map Some) q.gone) in (
      search rules,
      (
        q.table,
        (
          q.low,
          (q.fits, (blank, (items, many, all_in_front (shape_slot c.args.shape.now) c.args.start c.args.count items row many is))),
        ),
      ),
    )

pub returns-clause-emptied : goal.returns-clause-emptied
returns-clause-emptied g c =
    let q = c.requires in
    let row = c.args.seat.now.me.1 in
    let items = somes (values row) in
    let many = sym (ap length q.packed ∙ length-cells items) ∙ q.held.0 in
    let is = q.held.1 ∙ ap (run (shape_slot c.args.shape.now) c.args.start) q.packed in
    c.take_out.ensures.emptied
    ∙ ap (λ l. l ++ run (shape_slot c.args.shape.now) c.args.start (replicate c.args.count None))
    (none_behind (shape_slot c.args.shape.now) c.args.start c.args.count items row many is)

pub returns-clause-items : goal.returns-clause-items
returns-clause-items g c =
    let q = c.requires in
    let row = c.args.seat.now.me.1 in
    let items = somes (values row) in
    let many = sym (ap length q.packed ∙ length-cells items) ∙ q.held.0 in
    let is = q.held.1 ∙ ap (run (shape_slot c.args.shape.now) c.args.start) q.packed in
    let d = c.take_out.ensures in
    same_words (shape_slot c.args.shape.now) c.args.start (somes c.take_out.new.cells) items (drop c.args.count row) (drop c.args.count row) (d.long ∙ sym many)
    (sym d.items ∙ all_in_front (shape_slot c.args.shape.now) c.args.start c.args.count items row many is)
