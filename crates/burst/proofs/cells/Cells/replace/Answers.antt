use Rattle.std.proofs.Common.{◌<◌, ap, arith, length, set, subst, sym, take, ◌∙◌}
use Rattle.std.proofs.Math.Seq.{take-set-lt}
use Rattle.burst.specs.Cells.{IsInFront}
use Rattle.burst.proofs.Fronts.{replaced}
use Rattle.burst.proofs.cells.Cells.replace.Goals as goal

pub invariant_of-self : goal.invariant_of-self
invariant_of-self g c =
    let n = c.self.inside.len in
    let below : c.args.i < n = omega (arith, c.requires, ap length (sym c.self.view_is) ∙ c.self.invariant.1) in
    subst (λ l. IsInFront g.row.N n l) (sym c.replace.ensures.after) (replaced g.row.N n c.args.i c.self.inside.row.items c.args.cell c.self.invariant below)

pub returns-clause-after : goal.returns-clause-after
returns-clause-after g c =
    let n = c.self.inside.len in
    let below : c.args.i < n = omega (arith, c.requires, ap length (sym c.self.view_is) ∙ c.self.invariant.1) in
    ap (take n) c.replace.ensures.after ∙ (take-set-lt n c.self.inside.row.items c.args.i c.args.cell below
    ∙ ap (λ l. set l c.args.i c.args.cell) c.self.view_is)
