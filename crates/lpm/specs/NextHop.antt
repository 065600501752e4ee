-- A next hop or none, in one word.
use Rattle.std.specs.Prelude.{ℕ, ◌+◌, ◌%◌, ◌^◌, Option, Some, None, nat_eq, if◌then◌else◌}

-- the word: 0 for none, otherwise the hop with a flag above it
abbrev pub word_of_hop : Option ℕ → ℕ
word_of_hop None = 0
word_of_hop (Some hop) = 2 ^ 24 + hop

-- the hop in a word
abbrev pub hop_in_word : ℕ → Option ℕ
hop_in_word word = if nat_eq word 0 then None else Some (word % 2 ^ 24)
