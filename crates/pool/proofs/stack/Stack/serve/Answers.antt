use Rattle.std.proofs.Common.{◌≡◌, ◌∙◌, ap, length, take}
use Rattle.pool.proofs.Stacks.{served_run}
use Rattle.pool.proofs.stack.Stack.serve.Goals as goal

pub returns-clause-served : goal.returns-clause-served
returns-clause-served g c =
    let s = c.args.self.now in
    let xs = s.places.items in
    let n = length c.args.into.now in
    let copied : c.copy_from_slice.new.self ≡ take n xs = c.copy_from_slice.ensures.after ∙ ap (take n) c.as_slice.ensures.value in
    served_run xs s.count s.fits n c.args.k c.copy_from_slice.new.self c.reverse.new.self c.requires.enough c.requires.fits copied c.reverse.ensures.after
