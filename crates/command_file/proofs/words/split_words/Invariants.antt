use Rattle.std.proofs.Common.{◌≡◌, ◌==◌, not, filter, length, take}
use Rattle.std.specs.List.{slice_split}
use Rattle.command_file.specs.Text.{is_blank, texts}
use Rattle.command_file.proofs.words.split_words.Given as goal

abbrev pub invariant-loop-part : goal.invariant-loop-part
invariant-loop-part l = texts l.words.items ≡ filter (λ word. not (length word == 0)) (take (length l.yielded) (slice_split is_blank l.line))
