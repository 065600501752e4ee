use Rattle.std.proofs.Common.{◌≡◌, ◌-◌, ◌≤◌, ◌∙◌, ap, arith, drop, rules, take}
use Rattle.std.proofs.Math.Seq.{paste}
use Rattle.std.proofs.lemmas.List.{length-take-le, with_items_is}
use Rattle.pool.proofs.Stacks.{moved_front}
use Rattle.pool.proofs.stack.Stack.drop_first.Goals as goal

pub returns-clause-left : goal.returns-clause-left
returns-clause-left g c =
    let s = c.args.self.now in
    let xs = s.places.items in
    let k = c.args.k in
    let later = c.copy_within.new.self in
    let le : k ≤ s.count = omega (arith, c.requires.enough, length-take-le s.count xs s.fits) in
    let at : later ≡ paste xs 0 (drop k xs) (s.count - k) =
    c.copy_within.ensures.after ∙ ap (λ l. paste l 0 (drop k l) (s.count - k)) c.as_mut_slice.ensures.value in
    ap (take (s.count - k)) (with_items_is s.places later (search rules)) ∙ moved_front xs s.count s.fits k later le at
