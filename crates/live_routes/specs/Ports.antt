-- The ports of a router
use Rattle.std.specs.Prelude.{◌≤◌, ℕ, All, List, length, map, take}
use Rattle.ipv4.specs.declared.ports.Hop.{Hop}
use Rattle.live_routes.specs.declared.ports.Port.{Port}

-- at most 256 ports and 2^24 next hops, and prefixes of at most 32 bits
pub record IsPossible (ports : List Port) (hops : List Hop) : Type 0 where
  pub few_ports : length ports ≤ 256
  pub few_hops : length hops ≤ 16777216
  pub prefixes : All (λ p. p.depth ≤ 32) ports

-- the hardware addresses of the ports, of which there are at most 256
abbrev pub sources_of : List Port → List (List ℕ)
sources_of ports = map (λ p. p.mac) (take 256 ports)
