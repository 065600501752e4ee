use Rattle.std.proofs.Common.{◌≡◌, ◌++◌, take}
use Rattle.steps_file.specs.Plans.{gifts_to}
use Rattle.steps_file.proofs.stage.plan.give.Given as goal

abbrev pub invariant-loop-b : goal.invariant-loop-b
invariant-loop-b l = l.gifts.items ≡ l.initial.gifts.items ++ gifts_to l.actor (take l.b-index l.buffers)
