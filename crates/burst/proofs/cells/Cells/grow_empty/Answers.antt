use Rattle.std.proofs.Common.{◌+◌, ◌≤◌, ◌++◌, ap, arith, length, replicate, None, ◌∙◌}
use Rattle.burst.proofs.Fronts.{lengthened}
use Rattle.burst.proofs.cells.Cells.grow_empty.Goals as goal

pub invariant_of-self : goal.invariant_of-self
invariant_of-self g c =
    let room : c.self.inside.len + c.args.n ≤ g.row.N = omega (arith, c.requires, ap length c.self.view_is, c.self.invariant.1) in
    (lengthened g.row.N c.self.inside.len c.args.n c.self.inside.row.items c.self.invariant room).0

pub returns : goal.returns
returns g c =
    let room : c.self.inside.len + c.args.n ≤ g.row.N = omega (arith, c.requires, ap length c.self.view_is, c.self.invariant.1) in
    (lengthened g.row.N c.self.inside.len c.args.n c.self.inside.row.items c.self.invariant room).1 ∙ ap (λ l. l ++ replicate c.args.n None) c.self.view_is
