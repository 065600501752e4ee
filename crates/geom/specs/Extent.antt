-- How large a ring is (DPDK Programmer's Guide, "Ring Library"), and how far its positions go
use Rattle.std.specs.Prelude.{ℕ, ◌+◌, ◌*◌, ◌<◌, ◌≤◌, ◌^◌, ◌%◌, refl}
use Rattle.std.specs.Int.{IsPowerOfTwo}
use Rattle.std.specs.Coded.{Coded, code_by, coded×, coded_ℕ}

-- The number of slots, how many items the ring holds, its greatest position, and how many of the low bits of a
-- head/tail-sync word are for the count of reserved positions: the position has the others
pub record Extent : Type 0 where
  pub size : ℕ
  pub capacity : ℕ
  pub last : ℕ
  pub count_bits : ℕ

abbrev pub extent_code : Coded Extent
extent_code =
    code_by ((ℕ × ℕ) × (ℕ × ℕ)) (coded× (coded× coded_ℕ coded_ℕ) (coded× coded_ℕ coded_ℕ))
    (λ e. ((e.size, e.capacity), (e.last, e.count_bits)))
    (λ p. record { size = p.0.0; capacity = p.0.1; last = p.1.0; count_bits = p.1.1 }) (λ _. refl)

-- the reserved count in a head/tail-sync word of the ring is below this
abbrev pub range_of : Extent → ℕ
range_of e = 2 ^ e.count_bits

-- The word of a head/tail-sync side with its tail at a position, and a count of positions reserved from there on. 64 bits
-- have room for both up to the ring's greatest position
abbrev pub packed : Extent → (position count : ℕ) → ℕ
packed e position count = (position * range_of e + count) % 2 ^ 64

-- an extent that a ring may have: at least one item, at least one slot that stays empty, and a word of 64 bits has room
-- for each position with each count
pub record IsExtent (e : Extent) : Type 0 where
  pub power : IsPowerOfTwo e.size
  pub some : 0 < e.capacity
  pub spare : e.capacity < e.size
  pub small : e.size ≤ 2 ^ 20
  pub counts : 0 < e.count_bits
  pub shorter : e.count_bits < 64
  pub words : (e.last + 1) * range_of e ≤ 2 ^ 64

-- the slot of a position
abbrev pub slot_of : Extent → ℕ → ℕ
slot_of e position = position % e.size
