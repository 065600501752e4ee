-- What a router forwards by: routes, next hops and ports.
use Rattle.std.specs.Prelude.{ℕ, List, [], slice_set, refl}
use Rattle.std.specs.FinMap as map
use Rattle.std.specs.Coded.{Coded, code_by, coded×, coded_ℕ, coded_list}
use Rattle.lpm.specs.Prefixes.{Members, prefix_code, prefix_of}
use Rattle.lpm.specs.Routes.{Routes}

pub record Forwarding (H P : Type 0) : Type 0 where
  -- how many first bits of an address select an entry of the first level
  pub bits : ℕ
  -- the maximum number of groups
  pub limit : ℕ
  -- the routes: from prefixes to the numbers of next hops
  pub members : Members
  -- the next hops by their numbers
  pub hops : List H
  -- the ports by their numbers
  pub ports : List P

abbrev pub forwarding_code : {H P : Type 0} → Coded H → Coded P → Coded (Forwarding H P)
forwarding_code {H} {P} h p =
    code_by (ℕ × (ℕ × (Members × (List H × List P))))
    (coded× coded_ℕ (coded× coded_ℕ (coded× (map.code prefix_code coded_ℕ) (coded× (coded_list h) (coded_list p)))))
    (λ f. (f.bits, (f.limit, (f.members, (f.hops, f.ports)))))
    (λ c. record { bits = c.0; limit = c.1.0; members = c.1.1.0; hops = c.1.1.1.0; ports = c.1.1.1.1 })
    (λ _. refl)

module _ {H P : Type 0} where
  -- the routes alone, as lpm's words see them
  abbrev pub routes_of : Forwarding H P → Routes
  routes_of f = record { bits = f.bits; limit = f.limit; members = f.members; groups = [] }

  -- with one route more, or with a new hop for an existing one
  abbrev pub with_route : Forwarding H P → ℕ → ℕ → ℕ → Forwarding H P
  with_route f address depth hop = record f { members = map.insert f.members (prefix_of address depth) hop }

  -- without one route
  abbrev pub without_route : Forwarding H P → ℕ → ℕ → Forwarding H P
  without_route f address depth = record f { members = map.remove f.members (prefix_of address depth) }

  abbrev pub without_routes : Forwarding H P → Forwarding H P
  without_routes f = record f { members = map.empty }

  -- with another next hop of that number
  abbrev pub with_hop : Forwarding H P → ℕ → H → Forwarding H P
  with_hop f number hop = record f { hops = slice_set f.hops number hop }

  -- with another port of that number
  abbrev pub with_port : Forwarding H P → ℕ → P → Forwarding H P
  with_port f number port = record f { ports = slice_set f.ports number port }

  -- no routes, and these next hops and ports
  abbrev pub opening : ℕ → ℕ → List H → List P → Forwarding H P
  opening bits limit hops ports = record { bits = bits; limit = limit; members = map.empty; hops = hops; ports = ports }
