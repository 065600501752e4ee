-- Worked texts and documents, computed by the definitions: each line of the tables, and each order of two tests.
use Rattle.std.proofs.Common.{◌≡◌, ℕ, pos, negsuc, codes, true, List, [], ◌∷◌, ◌++◌, map, Some, None, Result, Ok, Err, refl, is_ok}
use Rattle.std.specs.FinMap as fin_map
use Rattle.toml.specs.Data.{Members, member, no_members, string, integer, boolean, array, table, item, no_items}
use Rattle.toml.proofs.OnLiterals.{toml_on_literals}
use Rattle.lpm.specs.Prefixes.{prefix_of}
use Rattle.settings.specs.declared.key.Key.{Key}
use Rattle.settings.specs.declared.key.Key.TheVariants.{Buffers, Headroom, Room, Cache, Burst, Ring, Bits, Groups, Port, Mac, Route as RouteKey}
use Rattle.settings.specs.declared.fault.SettingsFault.{SettingsFault}
use Rattle.settings.specs.declared.fault.SettingsFault.TheVariants.{NotToml, Missing, BadValue, BadRoute, TooFewBuffers}
use Rattle.settings.specs.declared.route.Route.{Route}
use Rattle.settings.specs.Texts.{Bytes, mac_of, prefix_in}
use Rattle.settings.specs.Faults.{◌>>=◌, value_or}
use Rattle.settings.specs.Documents.{tree_of}
use Rattle.settings.specs.Routing.{no_routes, with_one}
use Rattle.settings.specs.Settings.{Content, number_by, numbers_of, sources_of, routes_of, routed_by, with_buffers, settings_of, settings_in}
use Rattle.settings.proofs.OneRoute.{first_route}

-- hardware addresses
pub macs : map mac_of (
    codes "02:00:00:00:00:10"
    ∷ codes "aB:Cd:eF:09:9f:A0"
    ∷ codes "02:00:00:00:00"
    ∷ codes "02:00:00:00:00:10:11"
    ∷ codes "02:00:00:00:00:1"
    ∷ codes "02:00:00:00:00:100"
    ∷ codes "02:00:00:00:00:1g"
    ∷ codes "02:00:00:00:00:1/"
    ∷ codes "02:00:00:00:00:@1"
    ∷ codes "02:00:00:00:00:`1"
    ∷ codes "02-00-00-00-00-10"
    ∷ codes "020000000010"
    ∷ codes " 02:00:00:00:00:10"
    ∷ [] ∷ [])
    ≡ Some (2 ∷ 0 ∷ 0 ∷ 0 ∷ 0 ∷ 16 ∷ []) ∷ Some (171 ∷ 205 ∷ 239 ∷ 9 ∷ 159 ∷ 160 ∷ [])
    ∷ None ∷ None ∷ None ∷ None ∷ None ∷ None ∷ None ∷ None ∷ None ∷ None ∷ None ∷ None ∷ []
macs = refl

-- prefixes
pub prefixes : map prefix_in (
    codes "10.0.0.0/8"
    ∷ codes "10.1.2.3/32"
    ∷ codes "255.255.255.255/1"
    ∷ codes "0.0.0.0/10"
    ∷ codes "10.0.0.0/08"
    ∷ codes "10.0.0.0/0"
    ∷ codes "10.0.0.0/33"
    ∷ codes "10.0.0.0/"
    ∷ codes "10.0.0.0"
    ∷ codes "10.0.0.0/8/8"
    ∷ codes "10.0.0/8"
    ∷ codes "10.0.0.0.0/8"
    ∷ codes "10.0.0.256/8"
    ∷ codes "10.0.00.0/8"
    ∷ codes "010.0.0.0/8"
    ∷ codes "10.0..0/8"
    ∷ codes "10.0.0.0 /8"
    ∷ codes "10.0.0.+1/8"
    ∷ codes "10.0.0.1000/8"
    ∷ codes "10.0.0.:/8"
    ∷ codes "10.0.0.0/:"
    ∷ [])
    ≡ Some (167772160, 8) ∷ Some (167838211, 32) ∷ Some (4294967295, 1) ∷ Some (0, 10)
    ∷ None ∷ None ∷ None ∷ None ∷ None ∷ None ∷ None ∷ None ∷ None ∷ None ∷ None ∷ None ∷ None ∷ None ∷ None ∷ None ∷ None ∷ []
prefixes = refl

-- the table of numbers: the least and the greatest value, the values next to them on both sides, and an odd one
-- between, each taken as it is written; and the default if the key is missing
abbrev numbers_at : Key → List ℕ → List (Result ℕ SettingsFault)
numbers_at key ns = map (λ n. number_by key (Some (integer (pos n)))) ns

pub buffers_row : numbers_at Buffers (0 ∷ 1 ∷ 3 ∷ 65535 ∷ 65536 ∷ 65537 ∷ [])
    ≡ Err (BadValue Buffers) ∷ Ok 1 ∷ Ok 3 ∷ Ok 65535 ∷ Ok 65536 ∷ Err (BadValue Buffers) ∷ []
buffers_row = refl

pub headroom_row : numbers_at Headroom (0 ∷ 1 ∷ 1023 ∷ 1024 ∷ 1025 ∷ [])
    ≡ Ok 0 ∷ Ok 1 ∷ Ok 1023 ∷ Ok 1024 ∷ Err (BadValue Headroom) ∷ []
headroom_row = refl

pub room_row : numbers_at Room (63 ∷ 64 ∷ 65 ∷ 65535 ∷ 65536 ∷ 65537 ∷ [])
    ≡ Err (BadValue Room) ∷ Ok 64 ∷ Ok 65 ∷ Ok 65535 ∷ Ok 65536 ∷ Err (BadValue Room) ∷ []
room_row = refl

pub cache_row : numbers_at Cache (0 ∷ 1 ∷ 127 ∷ 128 ∷ 129 ∷ [])
    ≡ Ok 0 ∷ Ok 1 ∷ Ok 127 ∷ Ok 128 ∷ Err (BadValue Cache) ∷ []
cache_row = refl

pub burst_row : numbers_at Burst (0 ∷ 1 ∷ 3 ∷ 63 ∷ 64 ∷ 65 ∷ [])
    ≡ Err (BadValue Burst) ∷ Ok 1 ∷ Ok 3 ∷ Ok 63 ∷ Ok 64 ∷ Err (BadValue Burst) ∷ []
burst_row = refl

pub ring_row : numbers_at Ring (0 ∷ 1 ∷ 3 ∷ 65535 ∷ 65536 ∷ 65537 ∷ [])
    ≡ Err (BadValue Ring) ∷ Ok 1 ∷ Ok 3 ∷ Ok 65535 ∷ Ok 65536 ∷ Err (BadValue Ring) ∷ []
ring_row = refl

pub bits_row : numbers_at Bits (15 ∷ 16 ∷ 17 ∷ 23 ∷ 24 ∷ 25 ∷ [])
    ≡ Err (BadValue Bits) ∷ Ok 16 ∷ Err (BadValue Bits) ∷ Err (BadValue Bits) ∷ Ok 24 ∷ Err (BadValue Bits) ∷ []
bits_row = refl

pub groups_row : numbers_at Groups (0 ∷ 1 ∷ 3 ∷ 65535 ∷ 65536 ∷ 65537 ∷ [])
    ≡ Ok 0 ∷ Ok 1 ∷ Ok 3 ∷ Ok 65535 ∷ Ok 65536 ∷ Err (BadValue Groups) ∷ []
groups_row = refl

pub missing_row : map (λ key. number_by key None) (Buffers ∷ Headroom ∷ Room ∷ Cache ∷ Burst ∷ Ring ∷ Bits ∷ Groups ∷ [])
    ≡ Err (Missing Buffers) ∷ Ok 128 ∷ Ok 2048 ∷ Ok 32 ∷ Ok 32 ∷ Ok 512 ∷ Ok 24 ∷ Ok 256 ∷ []
missing_row = refl

pub kinds_row : map (λ d. number_by Cache (Some d)) (integer (negsuc 0) ∷ boolean true ∷ string (codes "32") ∷ array no_items ∷ table no_members ∷ [])
    ≡ Err (BadValue Cache) ∷ Err (BadValue Cache) ∷ Err (BadValue Cache) ∷ Err (BadValue Cache) ∷ Err (BadValue Cache) ∷ []
kinds_row = refl

-- whole documents
-- each number key before the next one, and before the ports
pub numbers_in_order : map settings_in (
    codes "headroom = 1025\nport = 1\n"
    ∷ codes "buffers = 256\nroom = 63\nheadroom = 1025\n"
    ∷ codes "buffers = 256\ncache = 129\nroom = 63\n"
    ∷ codes "buffers = 256\nburst = 0\ncache = 129\n"
    ∷ codes "buffers = 256\nring = 0\nburst = 0\n"
    ∷ codes "buffers = 256\nbits = 8\nring = 0\n"
    ∷ codes "buffers = 256\ngroups = 65537\nbits = 8\n"
    ∷ codes "buffers = 256\nport = 1\ngroups = 65537\n"
    ∷ [])
    ≡ Err (Missing Buffers) ∷ Err (BadValue Headroom) ∷ Err (BadValue Room) ∷ Err (BadValue Cache) ∷ Err (BadValue Burst) ∷ Err (BadValue Ring)
    ∷ Err (BadValue Bits) ∷ Err (BadValue Groups) ∷ []
unfolding toml_on_literals settings_of numbers_of sources_of routes_of
numbers_in_order = refl

-- texts that have no tree
pub no_documents : map settings_in (codes "buffers = " ∷ codes "buffers = 9223372036854775808" ∷ (239 ∷ 187 ∷ 191 ∷ codes "buffers = 0") ∷ [])
    ≡ Err NotToml ∷ Err NotToml ∷ Err NotToml ∷ []
unfolding toml_on_literals settings_of numbers_of sources_of routes_of
no_documents = refl

-- the array of ports, as a whole and then port by port, before the routes
pub ports_in_order : map settings_in (
    codes "buffers = 1\n[[route]]\n"
    ∷ codes "buffers = 1\nport = []\nroute = 1\n"
    ∷ codes "buffers = 1\nport = 1\nroute = 1\n"
    ∷ codes "buffers = 1\n[port]\nmac = \"02:00:00:00:00:10\"\n"
    ∷ codes "buffers = 1\nport = [{}, 1]\nroute = 1\n"
    ∷ codes "buffers = 1\nport = [{}, {}, {}, {}, {}, {}, {}, {}, {}, {}, {}, {}, {}, {}, {}, {}, {}]\n"
    ∷ codes "buffers = 1\nport = [{}, {}, {}, {}, {}, {}, {}, {}, {}, {}, {}, {}, {}, {}, {}, {}]\nroute = 1\n"
    ∷ codes "buffers = 1\nport = [{mac = 1}, {}]\n"
    ∷ codes "buffers = 1\nport = [{}, {mac = 1}]\n"
    ∷ codes "buffers = 1\nport = [{mac = \"02:00:00:00:00:10\"}, {mac = \"02\"}]\nroute = 1\n"
    ∷ [])
    ≡ Err (Missing Port) ∷ Err (Missing Port) ∷ Err (BadValue Port) ∷ Err (BadValue Port) ∷ Err (BadValue Port) ∷ Err (BadValue Port)
    ∷ Err (Missing Mac) ∷ Err (BadValue Mac) ∷ Err (Missing Mac) ∷ Err (BadValue Mac) ∷ []
unfolding toml_on_literals settings_of numbers_of sources_of routes_of
ports_in_order = refl

-- the array of routes, as a whole and then route by route, before the count of buffers
abbrev with_port : Bytes → Bytes
with_port text = codes "buffers = 1\nport = [{mac = \"02:00:00:00:00:10\"}]\n" ++ text

pub routes_in_order : map (λ text. settings_in (with_port text)) (
    codes "route = 1\n"
    ∷ codes "route = [{}, 1]\n"
    ∷ codes "[route]\n"
    ∷ codes "route = [{}]\n"
    ∷ codes "route = [{prefix = \"10.0.0.0/8\", port = 0}]\n"
    ∷ codes "route = [{prefix = \"10.0.0.0/8\", to = \"02:00:00:00:00:20\"}]\n"
    ∷ codes "route = [{port = 0, to = \"02:00:00:00:00:20\"}]\n"
    ∷ codes "route = [{prefix = 10, port = 0, to = \"02:00:00:00:00:20\"}]\n"
    ∷ codes "route = [{prefix = \"10.0.0.0/8\", port = \"0\", to = \"02:00:00:00:00:20\"}]\n"
    ∷ codes "route = [{prefix = \"10.0.0.0/8\", port = 0, to = 1}]\n"
    ∷ codes "route = [{prefix = \"10.0.0.0/8\", port = 1, to = \"02:00:00:00:00:20\"}]\n"
    ∷ codes "route = [{prefix = \"10.0.0.0/8\", port = -1, to = \"02:00:00:00:00:20\"}]\n"
    ∷ codes "route = [{prefix = \"10.0.0.0/08\", port = 0, to = \"02:00:00:00:00:20\"}]\n"
    ∷ codes "route = [{prefix = \"10.0.0.0/8\", port = 0, to = \"02:00:00:00:00:2\"}]\n"
    ∷ codes "route = []\n"
    ∷ codes "ring = 512\n"
    ∷ [])
    ≡ Err (BadValue RouteKey) ∷ Err (BadValue RouteKey) ∷ Err (BadValue RouteKey) ∷ Err (BadRoute 0) ∷ Err (BadRoute 0) ∷ Err (BadRoute 0) ∷ Err (BadRoute 0)
    ∷ Err (BadRoute 0) ∷ Err (BadRoute 0) ∷ Err (BadRoute 0) ∷ Err (BadRoute 0) ∷ Err (BadRoute 0) ∷ Err (BadRoute 0) ∷ Err (BadRoute 0)
    ∷ Err TooFewBuffers ∷ Err TooFewBuffers ∷ []
unfolding toml_on_literals settings_of numbers_of sources_of routes_of
routes_in_order = refl

-- unknown keys are ignored, in the document, in a port and in a table with another name
pub other_keys : settings_in (codes "name = 1\nbuffers = 1\nport = [{name = 1, mac = \"02:00:00:00:00:10\"}]\n[other]\nroute = 1\n") ≡ Err TooFewBuffers
unfolding toml_on_literals settings_of numbers_of sources_of routes_of
other_keys = refl

-- the minimum number of buffers
abbrev by_cache : ℕ → ℕ → Result Content SettingsFault
by_cache buffers cache = with_buffers (record {
  numbers = record { buffers = buffers; headroom = 128; room = 2048; cache = cache; burst = 32; ring = 512; bits = 24; groups = 256 };
  sources = [];
  routes = no_routes;
})

pub fewest : (by_cache 111 32 ≡ Err TooFewBuffers) × (is_ok (by_cache 112 32) ≡ true) × (by_cache 64 1 ≡ Err TooFewBuffers) × (is_ok (by_cache 65 1) ≡ true)
    × (is_ok (by_cache 64 0) ≡ true) × (by_cache 255 128 ≡ Err TooFewBuffers) × (is_ok (by_cache 256 128) ≡ true)
fewest = (refl, refl, refl, refl, refl, refl, refl)

-- the example: one port and one route
abbrev example_tree : Members
example_tree =
    member (codes "buffers") (integer (pos 256)) (
    member (codes "port") (array (item (table (member (codes "mac") (string (codes "02:00:00:00:00:10")) no_members)) no_items)) (
    member (codes "route") (array (item (table (
    member (codes "port") (integer (pos 0)) (
    member (codes "prefix") (string (codes "10.0.0.0/8")) (
    member (codes "to") (string (codes "02:00:00:00:00:20")) no_members)))) no_items)) no_members))

pub example_read : tree_of (codes "buffers = 256\n[[port]]\nmac = \"02:00:00:00:00:10\"\n[[route]]\nprefix = \"10.0.0.0/8\"\nport = 0\nto = \"02:00:00:00:00:20\"\n")
    ≡ Some example_tree
unfolding toml_on_literals
example_read = refl

abbrev route_to : ℕ → ℕ → Route
route_to address depth = record { address = address; depth = depth; hop = record { port = 0; to = 2 ∷ 0 ∷ 0 ∷ 0 ∷ 0 ∷ 32 ∷ [] } }

pub example : settings_of example_tree ≡ Ok (record {
  numbers = record { buffers = 256; headroom = 128; room = 2048; cache = 32; burst = 32; ring = 512; bits = 24; groups = 256 };
  sources = (2 ∷ 0 ∷ 0 ∷ 0 ∷ 0 ∷ 16 ∷ []) ∷ [];
  routes = record {
    members = fin_map.insert fin_map.empty (prefix_of 167772160 8) 0;
    hops = record { port = 0; to = 2 ∷ 0 ∷ 0 ∷ 0 ∷ 0 ∷ 32 ∷ [] } ∷ [];
  };
})
unfolding settings_of numbers_of sources_of routes_of
example =
    first_route 24 256 (route_to 167772160 8) (λ fitted. value_or (BadRoute 0) fitted >>= (λ next. routed_by 24 256 1 next [])
    >>= (λ routes. with_buffers (record {
      numbers = record { buffers = 256; headroom = 128; room = 2048; cache = 32; burst = 32; ring = 512; bits = 24; groups = 256 };
      sources = (2 ∷ 0 ∷ 0 ∷ 0 ∷ 0 ∷ 16 ∷ []) ∷ [];
      routes = routes;
    })))

abbrev route_table : Bytes → Members
route_table prefix =
    member (codes "port") (integer (pos 0)) (
    member (codes "prefix") (string prefix) (
    member (codes "to") (string (codes "02:00:00:00:00:20")) no_members))

-- a route deeper than the first level if there is no group, before a bad route
pub no_group : routed_by 24 0 1 no_routes (route_table (codes "10.1.2.3/32") ∷ no_members ∷ []) ≡ Err (BadRoute 0)
no_group = first_route 24 0 (route_to 167838211 32) (λ fitted. value_or (BadRoute 0) fitted >>= (λ next. routed_by 24 0 1 next (no_members ∷ [])))

-- the same if there is one, and the bad route has its own number
pub second_route : routed_by 24 1 1 no_routes (route_table (codes "10.1.2.3/32") ∷ no_members ∷ []) ≡ Err (BadRoute 1)
second_route = first_route 24 1 (route_to 167838211 32) (λ fitted. value_or (BadRoute 0) fitted >>= (λ next. routed_by 24 1 1 next (no_members ∷ [])))

-- a route no deeper than the first level needs no group
pub shallow_route : routed_by 24 0 1 no_routes (route_table (codes "10.1.2.0/24") ∷ no_members ∷ []) ≡ Err (BadRoute 1)
shallow_route = first_route 24 0 (route_to 167838208 24) (λ fitted. value_or (BadRoute 0) fitted >>= (λ next. routed_by 24 0 1 next (no_members ∷ [])))

-- an unknown key of a route is ignored
pub other_key : routed_by 24 0 1 no_routes (
    member (codes "port") (integer (pos 0)) (
    member (codes "prefix") (string (codes "10.1.2.0/24")) (
    member (codes "to") (string (codes "02:00:00:00:00:20")) (
    member (codes "via") (integer (pos 1)) no_members)))
    ∷ no_members
    ∷ [])
    ≡ Err (BadRoute 1)
other_key = first_route 24 0 (route_to 167838208 24) (λ fitted. value_or (BadRoute 0) fitted >>= (λ next. routed_by 24 0 1 next (no_members ∷ [])))

-- a route to the same addresses replaces the one before
pub replaced : (with_one (with_one no_routes (route_to 167838211 16)) (route_to 167837696 16)).members
    ≡ fin_map.insert (fin_map.insert fin_map.empty (prefix_of 167837696 16) 0) (prefix_of 167837696 16) 1
replaced = refl
