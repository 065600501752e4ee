use Rattle.std.proofs.Common.{ap, sym, subst, ◌∙◌}
use Rattle.reorder.specs.Places.{waiting_in, IsRowOf}
use Rattle.reorder.proofs.StepLaws.{laid_new, waiting_new}
use Rattle.reorder.proofs.window.Window.new.Goals as goal

pub invariant_of-result : goal.invariant_of-result
invariant_of-result g c = subst (λ places. IsRowOf places 0 0) (sym c.in_ok-empty_row.ensures)
    (laid_new c.args.size c.requires.nonzero c.requires.small)

pub returns : goal.returns
returns g c = ap (λ places. waiting_in places 0) c.in_ok-empty_row.ensures ∙ waiting_new c.args.size c.requires.nonzero
