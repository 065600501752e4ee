-- Routes as a settings document gives them, and the table that they make. Route tables themselves are defined in lpm.
use Rattle.std.specs.Prelude.{codes, ℕ, nat_lt, List, [], ◌∷◌, ◌++◌, length, Option, Some, None, option_and_then}
use Rattle.std.specs.Prelude.{if◌then◌else◌}
use Rattle.std.specs.FinMap as map
use Rattle.toml.specs.Data as toml
use Rattle.lpm.specs.Prefixes.{Members, prefix_of}
use Rattle.lpm.specs.Groups.{groups_of}
use Rattle.ipv4.specs.declared.Hop.{Hop}
use Rattle.settings.specs.declared.route.Route.{Route}
use Rattle.settings.specs.Texts.{mac_of, prefix_in}
use Rattle.settings.specs.Documents.{natural_of, text_at}

infixl 10 ◌>>=◌
abbrev ◌>>=◌ : {A B : Type 0} → Option A → (A → Option B) → Option B
o >>= f = option_and_then f o

-- the number at `port`, if it is one of this many ports
abbrev pub port_at : ℕ → toml.Members → Option ℕ
port_at ports table = do
  d ← toml.get_member (codes "port") table
  n ← natural_of d
  if nat_lt n ports then Some n else None

-- a route to one of this many ports
abbrev pub route_of : ℕ → toml.Members → Option Route
route_of ports table = do
  prefix ← text_at (codes "prefix") table
  to_prefix ← prefix_in prefix
  port ← port_at ports table
  to ← text_at (codes "to") table
  mac ← mac_of to
  Some (record { address = to_prefix.0; depth = to_prefix.1; hop = record { port = port; to = mac } })

-- the members of a route table, and the hops that their numbers refer to
pub record Routed : Type 0 where
  pub members : Members
  pub hops : List Hop

abbrev pub no_routes : Routed
no_routes = record { members = map.empty; hops = [] }

-- with one more route: its hop is the last one, and a route to the same addresses is replaced
abbrev pub with_one : Routed → Route → Routed
with_one routed route = record {
  members = map.insert routed.members (prefix_of route.address route.depth) (length routed.hops);
  hops = routed.hops ++ route.hop ∷ [];
}

-- the same, if the table has enough groups
abbrev pub fitting : ℕ → ℕ → Routed → Route → Option Routed
fitting bits groups routed route =
    if nat_lt groups (groups_of bits (with_one routed route).members) then None else Some (with_one routed route)
