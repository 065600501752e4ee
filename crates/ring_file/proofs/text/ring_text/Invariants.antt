use Rattle.std.proofs.Common.{◌≡◌, length}
use Rattle.command_file.specs.Text.{lines_of}
use Rattle.command_file.specs.Files.{left_by, IsAnsweredTo}
use Rattle.ring_file.specs.Replies.{contents, ring_file}
use Rattle.ring_file.proofs.text.ring_text.Given as goal

abbrev pub invariant-loop-line : goal.invariant-loop-line
invariant-loop-line l =
    (l.number ≡ length l.yielded)
    × IsAnsweredTo ring_file l.number (lines_of l.bytes) l.initial.out.items l.out.items
    × (contents l.ring ≡ left_by ring_file l.number (lines_of l.bytes))
