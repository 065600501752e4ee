use Rattle.std.proofs.Common.{◌-◌, arith, length, subst, sym}
use Rattle.pool.specs.Places.{ArePlaced}
use Rattle.pool.specs.WordStacks.{words_in}
use Rattle.pool.proofs.Placing.{placed_take}
use Rattle.pool.proofs.word_stack.WordStack.pop_slice.Goals as goal

pub invariant_of-self : goal.invariant_of-self
invariant_of-self g c =
    let tags = g.T.Tagged.numbers in
    let s = c.args.self.now in
    let words = words_in s in
    record {
      small = omega (arith, c.pop_slice.ensures.room, s.small);
      placed = subst (ArePlaced tags s.at.items) (sym c.pop_slice.ensures.left)
          (placed_take tags s.at.items (length words - length c.args.into.now) words s.placed);
    }
