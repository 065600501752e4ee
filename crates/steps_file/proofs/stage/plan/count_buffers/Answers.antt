use Rattle.std.proofs.Common.{arith}
use Rattle.steps_file.proofs.Gifts.{count_more}
use Rattle.steps_file.proofs.stage.plan.count_buffers.Goals as goal

pub loop-gift-preserved : goal.loop-gift-preserved
loop-gift-preserved c =
    omega (arith, c.min.ensures, c.max-count.ensures, c.loop-gift.invariant, count_more c.args.gifts.now c.loop-gift.gift-index (0, 0) c.loop-gift-test.true)
