-- Bytes of a frame.
use Rattle.std.specs.Prelude.{ℕ, ◌+◌, ◌*◌, ◌<◌, List, slice_index}

-- numbers that are bytes
abbrev pub AreBytes : List ℕ → Type 0
AreBytes xs = (i : ℕ) → slice_index xs i < 256

-- the 16-bit number formed by byte i and the next one, high byte first
abbrev pub word_at : List ℕ → ℕ → ℕ
word_at xs i = slice_index xs i * 256 + slice_index xs (i + 1)
