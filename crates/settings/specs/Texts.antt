-- The texts in a settings document: hardware addresses, and prefixes of IPv4 addresses (RFC 4632, section 3.1).
use Rattle.std.specs.Prelude.{ℕ, ◌+◌, ◌-◌, ◌*◌, ◌==◌, ◌&&◌, ◌||◌, not, nat_le, Bool, List, [], ◌∷◌, length, fold}
use Rattle.std.specs.Prelude.{slice_index, Option, Some, None, option_and_then, if◌then◌else◌}
use Rattle.std.specs.List.{slice_split, list_all}
use Rattle.std.specs.Int.{w32, from_be_bytes}
use Rattle.settings.specs.Lists.{each_of}

infixl 10 ◌>>=◌
abbrev ◌>>=◌ : {A B : Type 0} → Option A → (A → Option B) → Option B
o >>= f = option_and_then f o

abbrev pub Bytes : Type 0
Bytes = List ℕ

abbrev pub is_within : ℕ → ℕ → ℕ → Bool
is_within low high n = nat_le low n && nat_le n high

-- the parts between the separators with this code
abbrev pub parts_at : ℕ → Bytes → List Bytes
parts_at sign text = slice_split (λ b. b == sign) text

-- a hexadecimal digit of either case
abbrev pub hex_digit : ℕ → Option ℕ
hex_digit b =
    if is_within 48 57 b then Some (b - 48)
    else (if is_within 65 70 b then Some (b - 55) else (if is_within 97 102 b then Some (b - 87) else None))

-- two hexadecimal digits
abbrev pub pair_of : Bytes → Option ℕ
pair_of (high ∷ low ∷ []) = do
  h ← hex_digit high
  l ← hex_digit low
  Some (h * 16 + l)
pair_of _ = None

-- a hardware address: six pairs of hexadecimal digits, separated by `:`
abbrev pub mac_of : Bytes → Option (List ℕ)
mac_of text = do
  octets ← each_of pair_of (parts_at 58 text)
  if length octets == 6 then Some octets else None

abbrev pub is_digit : ℕ → Bool
is_digit b = is_within 48 57 b

-- the first digit isn't 0 if others follow
abbrev pub is_plain : Bytes → Bool
is_plain part = length part == 1 || not (slice_index part 0 == 48)

-- one to three decimal digits without a leading 0
abbrev pub is_decimal : Bytes → Bool
is_decimal part = (is_within 1 3 (length part) && list_all is_digit part) && is_plain part

-- the value of digits, most significant first
abbrev pub value_of : Bytes → ℕ
value_of digits = fold (λ value digit. value * 10 + (digit - 48)) 0 digits

-- a decimal number up to this value
abbrev pub number_to : ℕ → Bytes → Option ℕ
number_to most part = if is_decimal part && nat_le (value_of part) most then Some (value_of part) else None

-- an address: four numbers up to 255, separated by `.`
abbrev pub address_of : Bytes → Option ℕ
address_of text = do
  octets ← each_of (number_to 255) (parts_at 46 text)
  if length octets == 4 then Some (from_be_bytes w32 octets) else None

-- a prefix: an address, and after `/` a number from 1 to 32, its depth
abbrev pub prefix_in : Bytes → Option (ℕ × ℕ)
prefix_in text = between (parts_at 47 text) where
  between : List Bytes → Option (ℕ × ℕ)
  between (address ∷ depth ∷ []) = do
    a ← address_of address
    d ← number_to 32 depth
    if nat_le 1 d then Some (a, d) else None
  between _ = None
