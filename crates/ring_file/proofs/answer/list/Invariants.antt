use Rattle.std.proofs.Common.{◌≡◌, ◌++◌, map, take}
use Rattle.ring_file.specs.Replies.{words_text}
use Rattle.ring_file.proofs.answer.list.Given as goal

abbrev pub invariant-loop-item : goal.invariant-loop-item
invariant-loop-item l = l.reply.items ≡ l.initial.reply.items ++ words_text (map (λ item. item.now) (take l.item-index l.items))
