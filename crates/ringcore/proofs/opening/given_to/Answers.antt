use Rattle.std.proofs.Common.{◌∙◌, ◌∷◌, [], length, ap, sym, arith}
use Rattle.std.specs.Prelude.{slice_index, ◌==◌}
use Rattle.std.specs.List.{filter, range_with_len}
use Rattle.std.proofs.lemmas.List.{length-append}
use Rattle.ringcore.proofs.OpeningSteps.{gifts_taken, gifts_passed}
use Rattle.ringcore.proofs.opening.given_to.Goals as goal
use Rattle.ringcore.proofs.opening.given_to.Goals.{then-gifts-b, else-gifts-b}

pub loop-b-preserved : goal.loop-b-preserved
loop-b-preserved c =
    let before = filter (λ b. slice_index c.args.gifts.now b == c.args.actor) (range_with_len 0 c.loop-b.b) in
    elim c.if-gifts-b.branch [
      | then-gifts-b w ↦ (
        omega (
          arith,
          w.count-is,
          c.loop-b.invariant.0,
          ap length (gifts_taken c.args.gifts.now c.args.actor c.loop-b.b w.if-gifts-b.true),
          length-append before (c.loop-b.b ∷ []),
        ),
        omega (arith, w.count-is, c.loop-b.invariant.1),
      )
      | else-gifts-b w ↦ (
        w.count-is ∙ (c.loop-b.invariant.0 ∙ sym (ap length (gifts_passed c.args.gifts.now c.args.actor c.loop-b.b w.if-gifts-b.false))),
        omega (arith, w.count-is, c.loop-b.invariant.1),
      )
    ]
