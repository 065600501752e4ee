use Rattle.std.proofs.Common.{◌+◌, ◌<◌, ap, length, subst, sym, ◌∙◌}
use Rattle.burst.specs.Cells.{IsInFront}
use Rattle.burst.proofs.Fronts.{pushed}
use Rattle.burst.proofs.cells.Cells.push.Goals as goal

pub invariant_of-self : goal.invariant_of-self
invariant_of-self g c =
    let n = c.self.inside.len in
    let xs = c.self.inside.row.items in
    let p = c.self.invariant in
    let room = subst (λ z. z < g.row.N) (ap length (sym c.self.view_is) ∙ p.1) c.requires in
    subst (λ l. IsInFront g.row.N (n + 1) l) (sym c.replace-found.ensures.after) (pushed g.row.N n xs c.args.cell p room)
