use Rattle.std.proofs.Common.{◌≡◌, length}
use Rattle.command_file.specs.Text.{lines_of}
use Rattle.command_file.specs.Files.{left_by, IsAnsweredTo}
use Rattle.steps_file.specs.Replies.{steps_file}
use Rattle.steps_file.specs.Standing.{Keeps}
use Rattle.steps_file.proofs.text.steps_text.Given as goal

abbrev pub invariant-loop-line : goal.invariant-loop-line
invariant-loop-line l =
    (l.number ≡ length l.yielded)
    × IsAnsweredTo steps_file l.number (lines_of l.bytes) l.initial.out.items l.out.items
    × Keeps l.stage (left_by steps_file l.number (lines_of l.bytes))
