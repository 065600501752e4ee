use Rattle.std.proofs.Common.{◌≡◌, take, Some}
use Rattle.command_file.specs.Text.{texts, number_of}
use Rattle.steps_file.specs.Forms.{each_of}
use Rattle.steps_file.proofs.command.item.numbers_of.Given as goal

abbrev pub invariant-loop-word : goal.invariant-loop-word
invariant-loop-word l = each_of number_of (texts (take l.word-index l.words)) ≡ Some l.numbers.items
