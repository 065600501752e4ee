use Rattle.std.proofs.Common.{None, ◌∙◌}
use Rattle.burst.proofs.Fronts.{all_alike, none_in_front}
use Rattle.burst.proofs.cells.Cells.new.Goals as goal

pub invariant_of-result : goal.invariant_of-result
invariant_of-result g c =
    let e = c.default.ensures in
    none_in_front g.row.N c.from_array_in.result.items (c.from_array_in.ensures.items ∙ all_alike None c.default.result g.row.N e.long e.at)
