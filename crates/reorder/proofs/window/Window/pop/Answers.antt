use Rattle.std.proofs.Common.{◌+◌, ◌%◌, ◌<◌, ◌^◌, ◌-◌, is_some, set, refl, ap, sym, subst, subst₂, ◌∙◌, arith}
use Rattle.std.specs.FinMap.{len}
use Rattle.reorder.specs.Places.{IsRowOf, waiting_in}
use Rattle.reorder.specs.Waiting.{Waiting, after_next}
use Rattle.reorder.proofs.StepLaws.{seen_at_head, fewer_after, next_reached, laid_after, waiting_after}
use Rattle.reorder.proofs.window.Window.pop.Goals as goal

pub returns-in_err-item-clause-item : goal.returns-in_err-item-clause-item
returns-in_err-item-clause-item g c =
    c.from_residual.ensures ∙ sym c.in_err-item.was ∙ c.take.ensures.value
    ∙ seen_at_head _ _ _ c.self.invariant _ _ c.index_mut.ensures.value c.self.view_is

-- there is an item at `next`, so `next` isn't the last number
pub overflow_add-self : goal.overflow_add-self
overflow_add-self g c =
    let read = c.take.ensures.value ∙ seen_at_head _ _ _ c.self.invariant _ _ c.index_mut.ensures.value refl in
    let below : c.self.inside.next < 2 ^ 64 - 1 = next_reached _ _ _ c.self.invariant
    (ap is_some (sym read ∙ c.in_ok-item.was)) in
    omega arith

pub invariant_of-self-2 : goal.invariant_of-self-2
invariant_of-self-2 g c =
    let places = c.self.inside.places in
    let head_after = c.place_of-self-inside.ensures ∙ ap (λ size. (c.self.inside.head + 1) % size)
    (c.len.ensures ∙ places.ok.0) in
    subst₂ (λ o head. IsRowOf (set places.items c.self.inside.head o) head (c.self.inside.next + 1))
    (sym c.take.ensures.after) (sym head_after) (laid_after _ _ _ c.self.invariant)

pub returns-clause-item : goal.returns-clause-item
returns-clause-item g c =
    sym c.in_ok-item.was ∙ c.take.ensures.value ∙ seen_at_head _ _ _ c.self.invariant _ _ c.index_mut.ensures.value
    c.self.view_is

pub returns-clause-given : goal.returns-clause-given
returns-clause-given g c =
    ap (λ o. waiting_in (set c.self.inside.places.items c.self.inside.head o) (c.self.inside.next + 1))
    c.take.ensures.after
    ∙ waiting_after _ _ _ c.self.invariant
    ∙ ap after_next c.self.view_is

pub returns-clause-fewer : goal.returns-clause-fewer
returns-clause-fewer g c =
    let held = sym (seen_at_head _ _ _ c.self.invariant _ _ c.index_mut.ensures.value c.self.view_is)
    ∙ sym c.take.ensures.value ∙ c.in_ok-item.was in
    let after =
    ap (λ o. waiting_in (set c.self.inside.places.items c.self.inside.head o) (c.self.inside.next + 1))
    c.take.ensures.after
    ∙ waiting_after _ _ _ c.self.invariant
    ∙ ap after_next c.self.view_is in
    subst (λ (window : Waiting g.row.T.Denot). len window.held < len c.args.self.now.held) (sym after)
    (fewer_after c.args.self.now (ap is_some held))
