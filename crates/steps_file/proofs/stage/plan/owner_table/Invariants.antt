use Rattle.std.proofs.Common.{take}
use Rattle.steps_file.specs.Plans.{IsTable}
use Rattle.steps_file.proofs.stage.plan.owner_table.Given as goal

abbrev pub invariant-loop-gift : goal.invariant-loop-gift
invariant-loop-gift l = IsTable l.fn.count l.table.items (take l.gift-index l.gifts)
