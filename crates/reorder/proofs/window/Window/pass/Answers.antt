use Rattle.std.proofs.Common.{◌≡◌, ◌+◌, ◌%◌, is_some, true≢false, refl, ap, sym, subst, ◌∙◌, arith}
use Rattle.std.specs.FinMap.{get}
use Rattle.reorder.specs.Places.{IsRowOf}
use Rattle.reorder.specs.Waiting.{Waiting}
use Rattle.reorder.proofs.PassLaws.{gone_by}
use Rattle.reorder.proofs.RefusalLaws.{is_none}
use Rattle.reorder.proofs.StepLaws.{seen_at_head, laid_passed, waiting_passed}
use Rattle.reorder.proofs.window.Window.pass.Goals as goal

pub returns-then-is_some-clause-passed : goal.returns-then-is_some-clause-passed
returns-then-is_some-clause-passed g c =
    let seen = seen_at_head _ _ _ c.self.invariant _ _ c.index.ensures c.self.view_is in
    let held = ap is_some (sym seen) ∙ sym c.if-is_some.ensures in (
      λ done. absurd (true≢false (sym done)),
      λ free. absurd (true≢false (sym held ∙ ap is_some (ap (get c.args.self.now.held) (sym free.0) ∙ free.1.vacant))),
    )

pub invariant_of-self : goal.invariant_of-self
invariant_of-self g c =
    let places = c.self.inside.places in
    let none = sym (seen_at_head _ _ _ c.self.invariant _ _ c.index.ensures refl)
    ∙ is_none _ (sym c.if-is_some.ensures) in
    let head_after = c.place_of-self-inside.ensures ∙ ap (λ size. (c.self.inside.head + 1) % size)
    (c.len-size.ensures ∙ places.ok.0) in
    subst (λ head. IsRowOf places.items head (c.self.inside.next + 1)) (sym head_after)
    (laid_passed _ _ _ c.self.invariant none)

pub returns-clause-passed : goal.returns-clause-passed
returns-clause-passed g c =
    let next = ap (λ w. w.next) c.self.view_is in
    let size = ap (λ w. w.size) c.self.view_is in
    let turn : c.args.seq ≡ c.args.self.now.next = omega (arith, next) in
    let none = sym (seen_at_head _ _ _ c.self.invariant _ _ c.index.ensures c.self.view_is)
    ∙ is_none _ (sym c.if-is_some.ensures) in (
      λ _. (
        turn,
        record {
          in_turn = omega (arith, turn);
          in_reach = omega (arith, turn, next, size, c.self.invariant.some);
          vacant = ap (get c.args.self.now.held) turn ∙ none;
        },
      ),
      λ _. refl,
    )

pub returns-clause-turn : goal.returns-clause-turn
returns-clause-turn g c = λ _.
    let none = sym (seen_at_head _ _ _ c.self.invariant _ _ c.index.ensures refl)
    ∙ is_none _ (sym c.if-is_some.ensures) in
    waiting_passed _ _ _ c.self.invariant none
    ∙ ap (λ (w : Waiting g.row.T.Denot). record w { next = w.next + 1 }) c.self.view_is

pub returns-clause-same : goal.returns-clause-same
returns-clause-same g c = λ _ item.
    let here = sym (seen_at_head _ _ _ c.self.invariant _ _ c.index.ensures refl)
    ∙ is_none _ (sym c.if-is_some.ensures) in
    let none = sym (seen_at_head _ _ _ c.self.invariant _ _ c.index.ensures c.self.view_is)
    ∙ is_none _ (sym c.if-is_some.ensures) in
    let turn : c.args.seq ≡ c.args.self.now.next = omega (arith, ap (λ w. w.next) c.self.view_is) in
    waiting_passed _ _ _ c.self.invariant here
    ∙ ap (λ (w : Waiting g.row.T.Denot). record w { next = w.next + 1 }) c.self.view_is
    ∙ gone_by c.args.self.now c.args.seq item turn none
