-- Where a hop number leads.
use Rattle.std.specs.Prelude.{◌≡◌, ℕ, List, length, Option, Some, option_and_then, option_map, slice_get}
use Rattle.ipv4.specs.declared.ports.Hop.{Hop}
use Rattle.ipv4.specs.declared.ports.Ports.{Ports}
use Rattle.ipv4.specs.declared.ports.Way.{Way}

-- through an entry's port, with the address of that port
abbrev pub leaving : Hop → List ℕ → Way
leaving entry from = record { port = entry.port; to = entry.to; from = from }

-- the way by a hop number's entry, with the entries and the sources of the ports; none if there is no such entry, or its
-- port has no source
abbrev pub way_in : List Hop → List (List ℕ) → ℕ → Option Way
way_in hops sources hop =
    option_and_then (λ entry. option_map (leaving entry) (slice_get sources entry.port)) (slice_get hops hop)

abbrev pub way_of : Ports → ℕ → Option Way
way_of ports hop = way_in ports.hops.items ports.sources.items hop

-- each address has 6 bytes, as a hardware address has
abbrev pub HasAddresses : Ports → Type 0
HasAddresses ports = (hop : ℕ) (way : Way) → way_of ports hop ≡ Some way → (length way.to ≡ 6) × (length way.from ≡ 6)
