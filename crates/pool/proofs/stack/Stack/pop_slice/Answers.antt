use Rattle.std.proofs.Common.{◌-◌, ◌∙◌, ap, arith, drop, length, reverse, sym, take}
use Rattle.std.proofs.lemmas.List.{length-take-le}
use Rattle.pool.specs.Stacks.{stacked}
use Rattle.pool.proofs.Stacks.{one_place, run_from}
use Rattle.pool.proofs.stack.Stack.pop_slice.Goals as goal

pub returns-then-into-eq1-clause-popped : goal.returns-then-into-eq1-clause-popped
returns-then-into-eq1-clause-popped g c =
    let words = stacked c.args.self.now in
    let one = c.if-into-eq1.true in
    one_place c.args.into.now c.pop.result one
    ∙ (ap reverse c.pop.ensures.popped ∙ ap (λ n. reverse (drop (length words - n) words)) (sym one))

pub returns-clause-popped : goal.returns-clause-popped
returns-clause-popped g c =
    let s = c.args.self.now in
    let xs = s.places.items in
    let n = length c.args.into.now in
    let r = s.count - n in
    c.copy_reversed.ensures
    ∙ ap reverse (ap (λ l. take (s.count - r) (drop r l)) c.as_slice.ensures.value
    ∙ (run_from xs s.count r (omega arith) ∙ ap (λ k. drop (k - n) (take s.count xs)) (sym (length-take-le s.count xs s.fits))))
