use Rattle.std.proofs.Common.{◌-◌, arith, subst, sym}
use Rattle.burst.specs.Cells.{IsInFront}
use Rattle.burst.proofs.Fronts.{popped}
use Rattle.burst.proofs.cells.Cells.pop.Goals as goal

pub invariant_of-self : goal.invariant_of-self
invariant_of-self g c =
    let n = c.self.inside.len in
    let xs = c.self.inside.row.items in
    subst (λ l. IsInFront g.row.N (n - 1) l) (sym c.replace.ensures.after) (popped g.row.N n xs c.self.invariant (omega (arith, c.if-self-eq0.false)))
