use Rattle.std.proofs.Common.{ap, get_or, sym, ◌∙◌}
use Rattle.burst.proofs.Items.{held, in_cell}
use Rattle.burst.proofs.burst.Burst.get_known.Goals as goal

pub returns : goal.returns
returns g c =
    let cell = c.index-as_slice-i.result in
    let here = c.index-as_slice-i.is ∙ ap (λ l. get_or l c.args.i cell) c.as_slice.ensures in
    c.as_ref.ensures.value ∙ sym (in_cell _ _ c.args.i cell (held _ _ c.self.invariant c.self.view_is) c.requires here)
