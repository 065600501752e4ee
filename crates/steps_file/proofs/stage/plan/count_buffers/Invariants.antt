use Rattle.std.proofs.Common.{◌≡◌, min, take}
use Rattle.steps_file.specs.Plans.{buffer_count}
use Rattle.steps_file.proofs.stage.plan.count_buffers.Given as goal

abbrev pub invariant-loop-gift : goal.invariant-loop-gift
invariant-loop-gift l = l.count ≡ min (buffer_count (take l.gift-index l.gifts)) 65537
