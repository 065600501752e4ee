-- What a frame is addressed to
use Rattle.std.specs.Prelude.{◌≡◌, ◌↔◌, ◌<◌, ◌≤◌, ◌⊎◌, ℕ, ◌+◌, ◌-◌, ◌*◌, ◌/◌, ◌%◌, ◌^◌, Any, Bool, IsSomeAnd, IsTrue, List, length, Option, None, Some, take, slice_get, slice_index, ⊤}
use Rattle.std.specs.Prelude.{if◌then◌else◌}
use Rattle.ipv4.specs.Forwarding.{destination_in}
use Rattle.live_routes.specs.declared.addressed.Addressed.{Addressed}
use Rattle.live_routes.specs.declared.ports.Port.{Port}

-- the frame's first six bytes are the port's hardware address (IEEE 802.3 section 3.2.4)
abbrev pub IsToPort : List ℕ → List ℕ → Type 0
IsToPort mac frame = (14 ≤ length frame) × (take 6 frame ≡ mac)

-- the first bit on the wire, the low one of the first byte, is that of groups (IEEE 802.3 section 3.2.3; RFC 1812
-- section 5.3.4)
abbrev pub IsToGroup : List ℕ → Type 0
IsToGroup frame = (14 ≤ length frame) × (slice_index frame 0 % 2 ≡ 1)

-- the port has this address (RFC 1812 section 5.2.3)
abbrev pub IsOwn : ℕ → Port → Type 0
IsOwn address p = (0 < p.depth) × (p.address ≡ address)

-- the address of a host group (RFC 1112 section 4, RFC 1122 section 3.2.1.3)
abbrev pub IsMulticast : ℕ → Type 0
IsMulticast address = address / 2 ^ 28 ≡ 14

-- all bits of the address after the prefix of the port's net are 1 (RFC 1122 section 3.2.1.3 (d)); a net with prefix 31
-- has no such address (RFC 3021 section 2.2), and neither has one of a single address
abbrev pub IsDirectedBroadcast : ℕ → Port → Type 0
IsDirectedBroadcast address p =
    let size = 2 ^ (32 - p.depth) in
    (0 < p.depth) × (p.depth ≤ 30) × (address ≡ p.address / size * size + (size - 1))

-- all hosts, or all hosts of a port's net (RFC 1812 sections 5.3.5.1 and 5.3.5.2)
abbrev pub IsBroadcast : List Port → ℕ → Type 0
IsBroadcast ports address = (address ≡ 2 ^ 32 - 1) ⊎ Any (IsDirectedBroadcast address) ports

-- the frame has an IPv4 packet, of whose destination this holds
abbrev pub HasDestination : List ℕ → (ℕ → Type 0) → Type 0
HasDestination frame holds = IsSomeAnd (destination_in frame) holds

-- what the frame is addressed to, with these ports and the hardware address of the one that it came in through
pub record Tells (ports : List Port) (mac frame : List ℕ) (a : Addressed) : Type 0 where
  pub port : IsTrue a.port ↔ IsToPort mac frame
  pub group : IsTrue a.group ↔ IsToGroup frame
  pub own : IsTrue a.own ↔ HasDestination frame (λ address. Any (IsOwn address) ports)
  pub multicast : IsTrue a.multicast ↔ HasDestination frame IsMulticast
  pub broadcast : IsTrue a.broadcast ↔ HasDestination frame (IsBroadcast ports)

abbrev pub one_if : Bool → ℕ
one_if b = if b then 1 else 0

-- what a frame is addressed to that came in through the port of this number; none if there is no such port
abbrev pub TellsAt : List Port → Option Port → List ℕ → Option Addressed → Type 0
TellsAt ports None frame None = ⊤
TellsAt ports None frame (Some a) = ⊥
TellsAt ports (Some p) frame None = ⊥
TellsAt ports (Some p) frame (Some a) = Tells ports p.mac frame a

abbrev pub TellsOf : List Port → ℕ → List ℕ → Option Addressed → Type 0
TellsOf ports number frame told = TellsAt ports (slice_get ports number) frame told

-- the same as bits
abbrev pub bits_of : Addressed → ℕ
bits_of a = one_if a.port + 2 * one_if a.group + 4 * one_if a.own + 8 * one_if a.multicast + 16 * one_if a.broadcast
