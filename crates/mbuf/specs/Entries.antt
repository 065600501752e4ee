-- How the shares are stored: each names a stored packet and a part of its bytes.
use Rattle.std.specs.Prelude.{◌≡◌, ◌≢◌, ◌+◌, ◌<◌, ◌≤◌, ◌^◌, ◌==◌, ℕ, List, [], length, map, take, drop, All, Some, None}
use Rattle.std.specs.Prelude.{slice_index_or}
use Rattle.std.specs.Prelude.{IsSome, ◌++◌, ◌∷◌}
use Rattle.std.specs.List.{count_by}
use Rattle.slab.specs.Slab.{Slab, get, Updates}
use Rattle.burst.specs.Numbers.{times}
use Rattle.mbuf.specs.Buffer.{Buffer}
use Rattle.mbuf.specs.Chain.{numbers_of, bytes_of, fresh_of}
use Rattle.mbuf.specs.Links.{rest_of}
use Rattle.mbuf.specs.Deck.{Share}
use Rattle.mbuf.specs.declared.entry.Entry.{Entry}

-- the stored packet at a key
abbrev pub packet_at : Slab (List Buffer) → ℕ → List Buffer
packet_at packets key = rest_of (get packets key)

-- the buffers of the packet at a key
abbrev pub numbers_at : Slab (List Buffer) → ℕ → List ℕ
numbers_at packets key = numbers_of (packet_at packets key)

-- the share in an entry
abbrev pub kept_by : Slab (List Buffer) → Entry → Share
kept_by packets entry =
    let packet = packet_at packets entry.packet in
    record { id = entry.id; mentions = fresh_of packet; bytes = take entry.len (drop entry.from (bytes_of packet)) }

abbrev pub live_of : Slab (List Buffer) → List Entry → List Share
live_of packets entries = map (kept_by packets) entries

-- an entry names a stored packet, and a part of its bytes
pub record IsKept (packets : Slab (List Buffer)) (entry : Entry) : Type 0 where
  pub stored : get packets entry.packet ≡ Some (packet_at packets entry.packet)
  pub within : entry.from + entry.len ≤ length (bytes_of (packet_at packets entry.packet))
  pub fits : entry.from + entry.len < 2 ^ 64

-- the entry at index i has this id
pub record HasIdAt (id : ℕ) (entries : List Entry) (i : ℕ) : Type 0 where
  pub there : i < length entries
  pub is : (entry : Entry) → (slice_index_or entries i entry).id ≡ id

-- each entry names a packet, each packet is named by an entry, and no buffer is in two packets
pub record IsTable (packets : Slab (List Buffer)) (entries : List Entry) : Type 0 where
  pub kept : All (IsKept packets) entries
  pub named : (key : ℕ) → IsSome (get packets key) → 0 < count_by (λ entry. entry.packet == key) entries
  pub apart : (key other number : ℕ) → key ≢ other → 0 < times number (numbers_at packets key)
      → times number (numbers_at packets other) ≡ 0

-- a packet is stored, and an entry for its share is appended to the others
pub record IsStored (old new : List Entry) (before after : Slab (List Buffer)) (id : ℕ)
    (chain : List Buffer) : Type 0 where
  pub key : ℕ
  pub vacant : get before key ≡ None
  pub updates : Updates before after key (Some chain)
  pub fits : length (bytes_of chain) < 2 ^ 64
  pub entries : new ≡ old ++ record { id = id; packet = key; from = 0; len = length (bytes_of chain) } ∷ []
