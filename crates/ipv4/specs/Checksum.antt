-- The Internet checksum (RFC 1071, section 1; RFC 791, section 3.1, "Header Checksum").
use Rattle.std.specs.Prelude.{ℕ, ◌+◌, ◌-◌, ◌*◌, ◌/◌, ◌%◌, ◌==◌, List, [], ◌∷◌, fold, if◌then◌else◌}

-- the bytes as 16-bit numbers, high byte first; an odd byte at the end is padded with a zero byte
abbrev pub words_of : List ℕ → List ℕ
words_of [] = []
words_of (high ∷ []) = high * 256 ∷ []
words_of (high ∷ low ∷ bytes) = (high * 256 + low) ∷ words_of bytes

-- one's complement addition: a carry out of 16 bits is added back at the low end
abbrev pub ones_complement_add : ℕ → ℕ → ℕ
ones_complement_add x y = (x + y) % 65536 + (x + y) / 65536

unfoldable pub ones_complement_sum : List ℕ → ℕ
ones_complement_sum bytes = fold ones_complement_add 0 (words_of bytes)

-- the one's complement of a 16-bit number
abbrev pub complement : ℕ → ℕ
complement word = 65535 - word

-- 0 for 0, otherwise the one number from 1 to 65535 that differs by a multiple of 65535: the result once all carries
-- are added back
unfoldable pub reduced : ℕ → ℕ
reduced n = if n == 0 then 0 else (n - 1) % 65535 + 1
