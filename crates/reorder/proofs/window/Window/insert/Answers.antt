use Rattle.std.proofs.Common.{Some, is_some, set, ap, sym, subst, ◌∙◌, arith}
use Rattle.reorder.specs.Places.{IsRowOf, waiting_in}
use Rattle.reorder.specs.Waiting.{IsWindow, with_number}
use Rattle.reorder.proofs.RefusalLaws.{late_only, early_only, double_here, double_refused, none_here, accepted, is_none}
use Rattle.reorder.proofs.StepLaws.{is_window, placed, seen, laid_put, waiting_put}
use Rattle.reorder.proofs.window.Window.insert.Goals as goal

pub returns-then-seq-self-clause-double : goal.returns-then-seq-self-clause-double
returns-then-seq-self-clause-double g c =
    let window = subst IsWindow c.self.view_is (is_window _ _ _ c.self.invariant) in
    late_only _ c.args.seq c.args.item window (omega (arith, ap (λ w. w.next) c.self.view_is))

pub returns-then-ahead-len-clause-double : goal.returns-then-ahead-len-clause-double
returns-then-ahead-len-clause-double g c =
    let window = subst IsWindow c.self.view_is (is_window _ _ _ c.self.invariant) in
    early_only _ c.args.seq c.args.item window (omega (
      arith,
      ap (λ w. w.next) c.self.view_is,
      ap (λ w. w.size) c.self.view_is,
    ))

pub returns-then-is_some-clause-double : goal.returns-then-is_some-clause-double
returns-then-is_some-clause-double g c =
    let seen = seen _ _ _ c.self.invariant c.args.seq _ _ _ _ (omega arith) (omega arith) c.place_of-place.ensures
    (c.len-2.ensures ∙ c.self.inside.places.ok.0) c.index.ensures c.self.view_is in
    double_here c.args.self.now c.args.seq c.args.item (ap is_some (sym seen) ∙ sym c.if-is_some.ensures)

pub returns-then-is_some-clause-accepted : goal.returns-then-is_some-clause-accepted
returns-then-is_some-clause-accepted g c =
    let seen = seen _ _ _ c.self.invariant c.args.seq _ _ _ _ (omega arith) (omega arith) c.place_of-place.ensures
    (c.len-2.ensures ∙ c.self.inside.places.ok.0) c.index.ensures c.self.view_is in
    double_refused c.args.self.now c.args.seq c.args.item (ap is_some (sym seen) ∙ sym c.if-is_some.ensures)

pub returns-clause-double : goal.returns-clause-double
returns-clause-double g c =
    let seen = seen _ _ _ c.self.invariant c.args.seq _ _ _ _ (omega arith) (omega arith) c.place_of-place.ensures
    (c.len-2.ensures ∙ c.self.inside.places.ok.0) c.index.ensures c.self.view_is in
    none_here c.args.self.now c.args.seq c.args.item (ap is_some (sym seen) ∙ sym c.if-is_some.ensures)

pub returns-clause-accepted : goal.returns-clause-accepted
returns-clause-accepted g c =
    let seen = seen _ _ _ c.self.invariant c.args.seq _ _ _ _ (omega arith) (omega arith) c.place_of-place.ensures
    (c.len-2.ensures ∙ c.self.inside.places.ok.0) c.index.ensures c.self.view_is in
    let next = ap (λ w. w.next) c.self.view_is in
    let size = ap (λ w. w.size) c.self.view_is in
    accepted c.args.self.now c.args.seq c.args.item (record {
      in_turn = omega (arith, next);
      in_reach = omega (arith, next, size);
      vacant = sym seen ∙ is_none _ (sym c.if-is_some.ensures);
    })

pub invariant_of-self : goal.invariant_of-self
invariant_of-self g c =
    let at = placed _ _ _ c.self.invariant c.args.seq _ _ (omega arith) c.place_of-place.ensures
    (c.len-2.ensures ∙ c.self.inside.places.ok.0) in
    let laid = laid_put _ _ _ c.self.invariant c.args.seq c.args.item (omega arith) (omega arith) in
    subst (λ after. IsRowOf after c.self.inside.head c.self.inside.next)
    (ap (λ place. set c.self.inside.places.items place (Some c.args.item)) (sym at) ∙ sym c.put.ensures) laid

pub returns-clause-inserted : goal.returns-clause-inserted
returns-clause-inserted g c =
    let at = placed _ _ _ c.self.invariant c.args.seq _ _ (omega arith) c.place_of-place.ensures
    (c.len-2.ensures ∙ c.self.inside.places.ok.0) in
    ap (λ after. waiting_in after c.self.inside.next) (c.put.ensures
    ∙ ap (λ place. set c.self.inside.places.items place (Some c.args.item)) at)
    ∙ waiting_put _ _ _ c.self.invariant c.args.seq c.args.item (omega arith) (omega arith)
    ∙ ap (λ window. with_number window c.args.seq c.args.item) c.self.view_is
