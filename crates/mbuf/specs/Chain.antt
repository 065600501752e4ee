-- A chain as contracts see it: the list of its segments, in the order of the packet.
use Rattle.std.specs.Prelude.{◌≡◌, ◌<◌, ◌≤◌, ℕ, zero, suc, ◌-◌, List, [], ◌∷◌, length, map, take, drop, All}
use Rattle.std.specs.List.{flat_map, sum_by, range_with_len}
use Rattle.burst.specs.Numbers.{AreDistinct}
use Rattle.mbuf.specs.Buffer.{Buffer, size_of, room_of, made, fresh, appended, blanked}

-- the numbers of its buffers
abbrev pub numbers_of : List Buffer → List ℕ
numbers_of chain = map (λ b. b.number) chain

-- the bytes of the packet
abbrev pub bytes_of : List Buffer → List ℕ
bytes_of chain = flat_map (λ b. b.bytes) chain

-- the chain without bytes, each segment with its original headroom
abbrev pub fresh_of : List Buffer → List Buffer
fresh_of chain = map fresh chain

-- two chains have the same segments, as they were made: their numbers, headroom, sizes and links
abbrev pub HasSameSegments : List Buffer → List Buffer → Type 0
HasSameSegments chain other = fresh_of chain ≡ fresh_of other

-- how many bytes it can take when fresh
abbrev pub space_of : List Buffer → ℕ
space_of chain = sum_by room_of chain

-- the bytes of segment i
abbrev pub part_of : List Buffer → ℕ → List ℕ
part_of [] i = []
part_of (b ∷ chain) zero = b.bytes
part_of (b ∷ chain) (suc i) = part_of chain i

-- where in the packet the bytes of segment i begin
abbrev pub place_of_part : List Buffer → ℕ → ℕ
place_of_part chain i = length (bytes_of (take i chain))

-- the headroom is that of the first segment
abbrev pub headroom_of : List Buffer → ℕ
headroom_of [] = 0
headroom_of (b ∷ chain) = b.headroom

abbrev pub first_bytes : List Buffer → List ℕ
first_bytes [] = []
first_bytes (b ∷ chain) = b.bytes

-- the tailroom is that of the last segment
abbrev pub tailroom_of : List Buffer → ℕ
tailroom_of [] = 0
tailroom_of (b ∷ []) = b.tailroom
tailroom_of (b ∷ next ∷ chain) = tailroom_of (next ∷ chain)

abbrev pub last_bytes : List Buffer → List ℕ
last_bytes [] = []
last_bytes (b ∷ []) = b.bytes
last_bytes (b ∷ next ∷ chain) = last_bytes (next ∷ chain)

-- the packet without its last n bytes
abbrev pub without_last : ℕ → List Buffer → List ℕ
without_last n chain = take (length (bytes_of chain) - n) (bytes_of chain)

-- with f applied to segment i
abbrev pub at_segment : ℕ → (Buffer → Buffer) → List Buffer → List Buffer
at_segment i f [] = []
at_segment zero f (b ∷ chain) = f b ∷ chain
at_segment (suc i) f (b ∷ chain) = b ∷ at_segment i f chain

-- with f applied to the last segment
abbrev pub at_last : (Buffer → Buffer) → List Buffer → List Buffer
at_last f [] = []
at_last f (b ∷ []) = f b ∷ []
at_last f (b ∷ next ∷ chain) = b ∷ at_last f (next ∷ chain)

-- what is unchanged when only the values of bytes change: each segment's number, headroom, length and tailroom
abbrev pub shape_of : List Buffer → List Buffer
shape_of chain = map blanked chain

-- the fresh chain, filled with bytes from its first segment on
abbrev pub filled : List ℕ → List Buffer → List Buffer
filled bytes [] = []
filled bytes (b ∷ chain) = appended (take (room_of b) bytes) (fresh b) ∷ filled (drop (room_of b) bytes) chain

-- each a chain of its own
abbrev pub singles : List Buffer → List (List Buffer)
singles buffers = map (λ b. b ∷ []) buffers

-- the numbers of several chains, one after another
abbrev pub all_numbers : List (List Buffer) → List ℕ
all_numbers chains = flat_map numbers_of chains

-- fresh segments, numbered from 0, each a chain of its own
abbrev pub made_all : ℕ → ℕ → ℕ → List (List Buffer)
made_all headroom room count = map (λ number. made headroom room number ∷ []) (range_with_len 0 count)

-- a fresh chain: 1 to 64 segments, none twice, and none larger than can be made
pub record IsChain (chain : List Buffer) : Type 0 where
  pub some : 0 < length chain
  pub few : length chain ≤ 64
  pub distinct : AreDistinct (numbers_of chain)
  pub small : All (λ b. size_of b ≤ 131072) chain

-- a chain with this number of bytes and of segments
abbrev pub IsCounted : List Buffer → ℕ → ℕ → Type 0
IsCounted chain len segments = IsChain (fresh_of chain) × (len ≡ length (bytes_of chain)) × (segments ≡ length chain)
