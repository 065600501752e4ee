use Rattle.std.proofs.Common.{◌++◌, ◌-◌, Some, ap, arith, drop, length, map, take, ◌∙◌}
use Rattle.std.proofs.lemmas.List.{length-take}
use Rattle.burst.specs.Items.{somes}
use Rattle.fabric_laws.specs.Kinds.{run}
use Rattle.fabric_laws.proofs.Cells.{length-cells}
use Rattle.fabric.specs.Shapes.{shape_slot}
use Rattle.fabric.proofs.Settling.{drop_some, packed_from, somes_of, take_some}
use Rattle.fabric.proofs.Turns.{all_taken}
use Rattle.fabric.proofs.items.bursts.BurstItems.fill.Goals as goal

pub invariant_of-self : goal.invariant_of-self
invariant_of-self g c =
    let items = c.args.self.now in
    let is = c.self.invariant ∙ ap (map Some) c.self.view_is in
    packed_from c.fill.new.cells (take c.args.k items) (c.fill.ensures.cells ∙ (ap (take c.args.k) is ∙ take_some c.args.k items))

pub returns-clause-filled : goal.returns-clause-filled
returns-clause-filled g c =
    let items = c.args.self.now in
    let is = c.self.invariant ∙ ap (map Some) c.self.view_is in
    let slot = shape_slot c.args.shape.now in
    c.fill.ensures.filled
    ∙ (ap (λ n. drop (n - c.args.k) c.args.seat.now.me.1 ++ run slot c.args.start (drop c.args.k c.self.inside.cells)) (ap length is ∙ length-cells items)
    ∙ ap (λ l. drop (length items - c.args.k) c.args.seat.now.me.1 ++ run slot c.args.start l) (ap (drop c.args.k) is ∙ drop_some c.args.k items))

pub returns-clause-left : goal.returns-clause-left
returns-clause-left g c =
    let items = c.args.self.now in
    let is = c.self.invariant ∙ ap (map Some) c.self.view_is in
    ap somes (c.fill.ensures.cells ∙ (ap (take c.args.k) is ∙ take_some c.args.k items)) ∙ somes_of (take c.args.k items)

pub returns-clause-front : goal.returns-clause-front
returns-clause-front g c =
    let items = c.args.self.now in
    let is = c.self.invariant ∙ ap (map Some) c.self.view_is in
    ap (take c.args.k) (ap somes (c.fill.ensures.cells ∙ (ap (take c.args.k) is ∙ take_some c.args.k items)) ∙ somes_of (take c.args.k items))
    ∙ all_taken (take c.args.k items) c.args.k (omega (arith, length-take c.args.k items))
