-- Which sizes and capacities a ring may be made with, and which it then has
use Rattle.std.specs.Prelude.{ℕ, zero, suc, Bool, ◌||◌, ◌+◌, ◌-◌, ◌/◌, ◌^◌, ◌==◌, nat_lt, if◌then◌else◌, Result, Ok, Err, Option}
use Rattle.std.specs.Prelude.{Some, None}
use Rattle.geom.specs.Extent.{Extent}
use Rattle.geom.specs.declared.geometry.GeomFault.{GeomFault}
use Rattle.geom.specs.declared.geometry.GeomFault.TheVariants.{NotPower, TooSmall, TooLarge}

-- the first of `2 ^ k`, `2 ^ (k + 1)`, .. that is above n; the last of `steps` of them if none is
unfoldable pub power_above : (steps k n : ℕ) → ℕ
power_above zero k n = 2 ^ k
power_above (suc steps) k n = if nat_lt n (2 ^ k) then 2 ^ k else power_above steps (k + 1) n

-- the least size of a ring that takes this many items: the least power of two above it
abbrev pub size_of : ℕ → ℕ
size_of capacity = power_above 20 0 capacity

-- whether n is a power of two: it is then the least power of two above n - 1
abbrev pub is_power : ℕ → Bool
is_power n = size_of (n - 1) == n

-- a ring of `count` slots
abbrev pub power_gives : ℕ → Result Extent GeomFault
power_gives count =
    if nat_lt count 2 then Err TooSmall
    else (if nat_lt (2 ^ 20) count then Err TooLarge
    else (if is_power count then Ok record { size = count; capacity = count - 1; last = 2 ^ 44 - 1; count_bits = 20 } else Err NotPower))

-- a ring for exactly this many items
abbrev pub exact_gives : ℕ → Result Extent GeomFault
exact_gives capacity =
    if capacity == 0 then Err TooSmall
    else (if nat_lt (2 ^ 20 - 1) capacity then Err TooLarge
    else Ok record { size = size_of capacity; capacity = capacity; last = 2 ^ 44 - 1; count_bits = 20 })

-- the same ring with another greatest position, and another number of bits for a count: a word has 64 bits for both
abbrev pub with_positions : Extent → (last count_bits : ℕ) → Option Extent
with_positions e last count_bits =
    if (count_bits == 0) || nat_lt 63 count_bits || nat_lt ((2 ^ 64 - 1) / 2 ^ count_bits) last then None
    else Some record { size = e.size; capacity = e.capacity; last = last; count_bits = count_bits }
