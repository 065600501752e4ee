-- The text of a command file: bytes, cut into lines, lines into words, and words that are numbers
use Rattle.std.specs.Prelude.{ℕ, not, ◌+◌, ◌-◌, ◌*◌, ◌^◌, ◌==◌, ◌&&◌, ◌||◌, nat_lt, nat_le, Bool, List, [], ◌∷◌, map}
use Rattle.std.specs.Prelude.{filter, length, fold, slice_index, Option, Some, None, if◌then◌else◌}
use Rattle.std.specs.List.{slice_split, list_all}
use Rattle.std.specs.Borrow.{Bor}
use Rattle.std.specs.Str.Lines.{strip_carriage_return}

abbrev pub Bytes : Type 0
Bytes = List ℕ

-- words of a file, by their bytes
abbrev pub texts : List (Bor Bytes) → List Bytes
texts words = map (λ word. word.now) words

-- lines end with 0x0a, and one 0x0d before the end of a line is dropped; what follows the last 0x0a is a line too,
-- often an empty one
abbrev pub lines_of : Bytes → List Bytes
lines_of bytes = map strip_carriage_return (slice_split (λ b. b == 10) bytes)

-- only spaces and tabs separate words
abbrev pub is_blank : ℕ → Bool
is_blank b = (b == 32) || (b == 9)

-- the words of a line
abbrev pub words_of : Bytes → List Bytes
words_of line = filter (λ word. not (length word == 0)) (slice_split is_blank line)

-- whether a line has no command: it has no words, or its first word begins with '#'
abbrev pub is_blank_or_comment : List Bytes → Bool
is_blank_or_comment words = (length words == 0) || (slice_index (first_of words) 0 == 35) where
  first_of : List Bytes → Bytes
  first_of [] = []
  first_of (word ∷ rest) = word

abbrev pub is_digit : ℕ → Bool
is_digit b = nat_le 48 b && nat_le b 57

-- the value of digits, most significant first
abbrev pub digits_value : Bytes → ℕ
digits_value digits = fold (λ value digit. value * 10 + (digit - 48)) 0 digits

-- whether a word has 1 to `most` bytes
abbrev pub len_is_1_to : ℕ → Bytes → Bool
len_is_1_to most word = nat_le 1 (length word) && nat_le (length word) most

-- 1 to 20 decimal digits
abbrev pub is_digits : Bytes → Bool
is_digits word = len_is_1_to 20 word && list_all is_digit word

-- a number: 1 to 20 decimal digits with a value below 2^64
abbrev pub number_of : Bytes → Option ℕ
number_of word = if is_digits word && nat_lt (digits_value word) (2 ^ 64) then Some (digits_value word) else None
