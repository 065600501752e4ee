use Rattle.std.proofs.Common.{◌≡◌, ◌<◌, ◌-◌, ◌++◌, ◌∷◌, ◌∙◌, [], ap, arith, length, reverse, rules, sym}
use Rattle.std.proofs.Math.ListN.{get_or}
use Rattle.std.proofs.lemmas.List.{get_or-reverse, length-reverse, take_more, take_more_set}
use Rattle.pool.proofs.stack_moves.copy_reversed.Goals as goal

pub loop-i-preserved : goal.loop-i-preserved
loop-i-preserved g c =
    let from = c.args.from.now in
    let into = c.loop-i.into in
    let i = c.loop-i.i in
    let x = c.index-from-n.result in
    let inside : i < length from = omega (arith, c.loop-i-test.true, c.requires) in
    let at : i < length (reverse from) = omega (arith, inside, length-reverse from) in
    let long : i < length into = omega (arith, c.loop-i-test.true, c.loop-i.invariant.0) in
    let word : x ≡ get_or (reverse from) i x =
    c.index-from-n.is ∙ (ap (λ n. get_or from (n - 1 - i) x) (sym c.requires) ∙ sym (get_or-reverse from i x inside)) in (
      search rules,
      take_more_set into i x long
          ∙ ((λ j. c.loop-i.invariant.1 j ++ word j ∷ []) ∙ sym (take_more (reverse from) i x at)),
    )
