use Rattle.std.proofs.Common.{ap, sym, subst, ◌∙◌, ◌%◌}
use Rattle.reorder.specs.Places.{IsRowOf}
use Rattle.reorder.specs.Waiting.{Waiting, slid_to}
use Rattle.reorder.proofs.StepLaws.{laid_later, waiting_later, slid}
use Rattle.reorder.proofs.window.Window.slide.Goals as goal

pub invariant_of-self : goal.invariant_of-self
invariant_of-self g c =
    let places = c.self.inside.places in
    let later = c.first_held-next.result in
    subst (λ size. IsRowOf places.items (later % size) later) (sym (c.len.ensures ∙ places.ok.0))
    (laid_later places.items _ _ c.self.invariant _ later c.first_held-next.ensures)

pub returns-clause-turn : goal.returns-clause-turn
returns-clause-turn g c = slid _ _ _ c.self.invariant _ _ c.first_held-next.ensures
    ∙ ap (λ window. slid_to window c.args.seq) c.self.view_is

pub returns-clause-kept : goal.returns-clause-kept
returns-clause-kept g c =
    waiting_later _ _ _ c.self.invariant _ _ c.first_held-next.ensures
    ∙ ap (λ (window : Waiting g.row.T.Denot). record window { next = c.first_held-next.result }) c.self.view_is
