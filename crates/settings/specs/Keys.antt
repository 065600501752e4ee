-- The keys of a settings document, and the table of those that are numbers.
use Rattle.std.specs.Prelude.{◌≡◌, ◌≤◌, ℕ, true, codes, ◌==◌, ◌||◌, Bool, false, Option, Some, None}
use Rattle.settings.specs.declared.key.Key.{Key}
use Rattle.settings.specs.declared.key.Key.TheVariants.{Buffers, Headroom, Room, Cache, Burst, Ring, Bits, Groups, Port}
use Rattle.settings.specs.declared.key.Key.TheVariants.{Mac, Route}
use Rattle.settings.specs.Texts.{Bytes, is_within}

abbrev pub name_of : Key → Bytes
name_of Buffers = codes "buffers"
name_of Headroom = codes "headroom"
name_of Room = codes "room"
name_of Cache = codes "cache"
name_of Burst = codes "burst"
name_of Ring = codes "ring"
name_of Bits = codes "bits"
name_of Groups = codes "groups"
name_of Port = codes "port"
name_of Mac = codes "mac"
name_of Route = codes "route"

-- the values of a key that is a number
abbrev pub is_allowed : Key → ℕ → Bool
is_allowed Buffers n = is_within 1 65536 n
is_allowed Headroom n = is_within 0 1024 n
is_allowed Room n = is_within 64 65536 n
is_allowed Cache n = is_within 0 128 n
is_allowed Burst n = is_within 1 64 n
is_allowed Ring n = is_within 1 65536 n
is_allowed Bits n = (n == 16) || (n == 24)
is_allowed Groups n = is_within 0 65536 n
is_allowed Port n = false
is_allowed Mac n = false
is_allowed Route n = false

-- its default value
abbrev pub default_of : Key → Option ℕ
default_of Buffers = None
default_of Headroom = Some 128
default_of Room = Some 2048
default_of Cache = Some 32
default_of Burst = Some 32
default_of Ring = Some 512
default_of Bits = Some 24
default_of Groups = Some 256
default_of Port = None
default_of Mac = None
default_of Route = None

-- from `low` to `high`
abbrev pub IsFrom : ℕ → ℕ → ℕ → Type 0
IsFrom low high n = (low ≤ n) × (n ≤ high)

-- a number that the key allows
abbrev pub Allows : Key → ℕ → Type 0
Allows key n = is_allowed key n ≡ true
