-- The settings of a document: a function from its tree to them, or to the first fault.
use Rattle.std.specs.Prelude.{ℕ, ◌+◌, ◌*◌, ◌/◌, nat_lt, nat_le, List, [], ◌∷◌, length, Option, Some, None}
use Rattle.std.specs.Prelude.{option_and_then, Result, Ok, Err, if◌then◌else◌}
use Rattle.toml.specs.Data.{Data, Members, get_member, as_str}
use Rattle.settings.specs.declared.key.Key.{Key}
use Rattle.settings.specs.declared.key.Key.TheVariants.{Buffers, Headroom, Room, Cache, Burst, Ring, Bits, Groups, Port}
use Rattle.settings.specs.declared.key.Key.TheVariants.{Mac, Route}
use Rattle.settings.specs.declared.fault.SettingsFault.{SettingsFault}
use Rattle.settings.specs.declared.fault.SettingsFault.TheVariants.{NotToml, Missing, BadValue, BadRoute, TooFewBuffers}
use Rattle.settings.specs.Texts.{Bytes, mac_of}
use Rattle.settings.specs.Keys.{name_of, is_allowed, default_of}
use Rattle.settings.specs.declared.numbers.Numbers.{Numbers}
use Rattle.settings.specs.Faults.{◌>>=◌, value_or, each_ok}
use Rattle.settings.specs.Documents.{tree_of, natural_of, tables_of}
use Rattle.settings.specs.Routing.{Routed, no_routes, route_of, fitting}

-- an allowed integer
abbrev pub allowed_of : Key → Data → Option ℕ
allowed_of key d = option_and_then (λ n. if is_allowed key n then Some n else None) (natural_of d)

-- the number at a key
abbrev pub number_by : Key → Option Data → Result ℕ SettingsFault
number_by key None = value_or (Missing key) (default_of key)
number_by key (Some d) = value_or (BadValue key) (allowed_of key d)

abbrev pub number_at : Members → Key → Result ℕ SettingsFault
number_at tree key = number_by key (get_member (name_of key) tree)

abbrev pub all_numbers : ℕ → ℕ → ℕ → ℕ → ℕ → ℕ → ℕ → ℕ → Numbers
all_numbers buffers headroom room cache burst ring bits groups = record {
  buffers = buffers;
  headroom = headroom;
  room = room;
  cache = cache;
  burst = burst;
  ring = ring;
  bits = bits;
  groups = groups;
}

-- the numbers, in the order of the table
unfoldable pub numbers_of : Members → Result Numbers SettingsFault
numbers_of tree = do
  buffers ← number_at tree Buffers
  headroom ← number_at tree Headroom
  room ← number_at tree Room
  cache ← number_at tree Cache
  burst ← number_at tree Burst
  ring ← number_at tree Ring
  bits ← number_at tree Bits
  groups ← number_at tree Groups
  Ok (all_numbers buffers headroom room cache burst ring bits groups)

-- at most this many tables
abbrev pub tables_to : ℕ → Key → Data → Result (List Members) SettingsFault
tables_to most key d =
    value_or (BadValue key) (option_and_then (λ tables. if nat_le (length tables) most then Some tables else None)
    (tables_of d))

abbrev pub some_tables : Key → List Members → Result (List Members) SettingsFault
some_tables key [] = Err (Missing key)
some_tables key (table ∷ tables) = Ok (table ∷ tables)

-- the array `port`: 1 to 16 tables
abbrev pub ports_by : Option Data → Result (List Members) SettingsFault
ports_by None = Err (Missing Port)
ports_by (Some d) = tables_to 16 Port d >>= some_tables Port

-- the hardware address of a port
abbrev pub source_by : Option Data → Result (List ℕ) SettingsFault
source_by None = Err (Missing Mac)
source_by (Some d) = value_or (BadValue Mac) (option_and_then mac_of (as_str d))

abbrev pub source_of : Members → Result (List ℕ) SettingsFault
source_of port = source_by (get_member (name_of Mac) port)

unfoldable pub sources_of : Members → Result (List (List ℕ)) SettingsFault
sources_of tree = do
  ports ← ports_by (get_member (name_of Port) tree)
  each_ok source_of ports

-- the array `route`: at most 65,536 tables, or none
abbrev pub route_tables_by : Option Data → Result (List Members) SettingsFault
route_tables_by None = Ok []
route_tables_by (Some d) = tables_to 65536 Route d

-- with one more route, whose number is that of its hop
abbrev pub next_of : ℕ → ℕ → ℕ → Routed → Members → Result Routed SettingsFault
next_of bits groups ports routed table =
    value_or (BadRoute (length routed.hops)) (option_and_then (fitting bits groups routed) (route_of ports table))

-- with routes, one after another
abbrev pub routed_by : ℕ → ℕ → ℕ → Routed → List Members → Result Routed SettingsFault
routed_by bits groups ports routed [] = Ok routed
routed_by bits groups ports routed (table ∷ tables) = do
  next ← next_of bits groups ports routed table
  routed_by bits groups ports next tables

unfoldable pub routes_of : ℕ → ℕ → ℕ → Members → Result Routed SettingsFault
routes_of bits groups ports tree = do
  tables ← route_tables_by (get_member (name_of Route) tree)
  routed_by bits groups ports no_routes tables

-- the minimum number of buffers with a cache of this size: a burst of 64 and a full cache
abbrev pub least_buffers : ℕ → ℕ
least_buffers cache = 64 + 3 * cache / 2

pub record Content : Type 0 where
  pub numbers : Numbers
  -- the hardware addresses of the ports
  pub sources : List (List ℕ)
  pub routes : Routed

-- the settings, if there are enough buffers
abbrev pub with_buffers : Content → Result Content SettingsFault
with_buffers content =
    if nat_lt content.numbers.buffers (least_buffers content.numbers.cache) then Err TooFewBuffers else Ok content

-- the settings of a tree
unfoldable pub settings_of : Members → Result Content SettingsFault
settings_of tree = do
  numbers ← numbers_of tree
  sources ← sources_of tree
  routes ← routes_of numbers.bits numbers.groups (length sources) tree
  with_buffers (record { numbers = numbers; sources = sources; routes = routes })

-- the settings of a text
abbrev pub settings_in : Bytes → Result Content SettingsFault
settings_in text = value_or NotToml (tree_of text) >>= settings_of
