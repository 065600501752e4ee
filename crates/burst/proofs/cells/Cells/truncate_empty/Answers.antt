use Rattle.std.proofs.Common.{◌-◌, ◌≤◌, ap, arith, drop, length, replicate, sym, None, ◌∙◌}
use Rattle.burst.proofs.Fronts.{shortened}
use Rattle.burst.proofs.cells.Cells.truncate_empty.Goals as goal

pub invariant_of-self : goal.invariant_of-self
invariant_of-self g c =
    let p = c.self.invariant in
    let long = ap length (sym c.self.view_is) ∙ p.1 in
    let fits : c.args.n ≤ c.self.inside.len = omega (arith, c.requires.fits, long) in
    (shortened g.row.N c.self.inside.len c.args.n c.self.inside.row.items p fits
    (ap (drop c.args.n) c.self.view_is ∙ (c.requires.blank ∙ ap (λ m. replicate (m - c.args.n) None) long))).0
