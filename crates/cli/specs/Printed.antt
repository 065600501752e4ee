-- What the program prints of command files whose bytes are known
use Rattle.std.specs.Prelude.{ℕ, List, [], length, Option}
use Rattle.std.specs.Io.KnownBytes.{Appends}
use Rattle.command_file.specs.Files.{IsAnsweredTo}
use Rattle.command_file.specs.Text.{lines_of}
use Rattle.ring_file.specs.Replies.{ring_file}
use Rattle.steps_file.specs.Replies.{steps_file}

-- the replies to all lines, after what was printed before
abbrev pub PrintsRingReplies : Option (List ℕ) → Option (List ℕ) → List ℕ → Type 0
PrintsRingReplies old new bytes = (replies : List ℕ)
    × IsAnsweredTo ring_file (length (lines_of bytes)) (lines_of bytes) [] replies × Appends old new replies

abbrev pub PrintsStepsReplies : Option (List ℕ) → Option (List ℕ) → List ℕ → Type 0
PrintsStepsReplies old new bytes = (replies : List ℕ)
    × IsAnsweredTo steps_file (length (lines_of bytes)) (lines_of bytes) [] replies × Appends old new replies
