use Rattle.std.proofs.Common.{◌≡◌, ◌++◌, take}
use Rattle.steps_file.specs.Replies.{items_text}
use Rattle.steps_file.proofs.reply.list.Given as goal

abbrev pub invariant-loop-item : goal.invariant-loop-item
invariant-loop-item l = l.text.items ≡ l.initial.text.items ++ items_text (take l.item-index l.items)
