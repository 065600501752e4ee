-- The word of a head/tail-sync side: a position in its high 44 bits, a count in its low 20
use Rattle.std.specs.Prelude.{ℕ, ◌+◌, ◌*◌, ◌/◌, ◌%◌, ◌^◌}

abbrev pub pack : ℕ → ℕ → ℕ
pack position reserved = position * 2 ^ 20 + reserved

abbrev pub unpack : ℕ → ℕ × ℕ
unpack word = (word / 2 ^ 20, word % 2 ^ 20)
