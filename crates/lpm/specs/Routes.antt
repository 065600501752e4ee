-- A table of routes as its callers see it.
use Rattle.std.specs.Prelude.{◌≡◌, ℕ, ◌+◌, ◌*◌, ◌<◌, ◌≤◌, ◌^◌, List, Option, Some, None, slice_index_or, IsSome, refl}
use Rattle.std.specs.FinMap as map
use Rattle.std.specs.Coded.{Coded, code_by, coded×, coded_ℕ, coded_list, coded_option}
use Rattle.lpm.specs.Prefixes.{IsDepth, Members, prefix_code, prefix_of, size_of}
use Rattle.lpm.specs.Groups.{groups_of}

pub record Routes : Type 0 where
  -- how many of an address's first bits select its first-level entry
  pub bits : ℕ
  -- the maximum number of groups
  pub limit : ℕ
  -- the routes: from prefixes to next hops
  pub members : Members
  -- for each first-level entry, the number of its group, if it has one
  pub groups : List (Option ℕ)

-- the number of the group of a first-level entry
abbrev pub group_at : Routes → ℕ → Option ℕ
group_at t first = slice_index_or t.groups first None

-- a group that is the group of a first-level entry
abbrev pub IsInUse : Routes → ℕ → Type 0
IsInUse t group = (first : ℕ) × (first < 2 ^ t.bits) × (group_at t first ≡ Some group)

-- the address with these first bits and these others
abbrev pub address_of : Routes → ℕ → ℕ → ℕ
address_of t first low = first * size_of t.bits + low

-- the members with one more, or with a new hop for an existing one
abbrev pub with_route : Routes → ℕ → ℕ → ℕ → Members
with_route t address depth hop = map.insert t.members (prefix_of address depth) hop

-- the members without one
abbrev pub without_route : Routes → ℕ → ℕ → Members
without_route t address depth = map.remove t.members (prefix_of address depth)

-- that route would need more groups than the maximum
abbrev pub NeedsTooMany : Routes → ℕ → ℕ → ℕ → Type 0
NeedsTooMany t address depth hop = t.limit < groups_of t.bits (with_route t address depth hop)

-- these are the members afterwards, in a table of the same form
pub record HasMembers (old new : Routes) (m : Members) : Type 0 where
  pub members : new.members ≡ m
  pub bits : new.bits ≡ old.bits
  pub limit : new.limit ≡ old.limit

-- no routes, a first level with this many bits, and this maximum of groups
pub record IsNew (t : Routes) (bits limit : ℕ) : Type 0 where
  pub empty : t.members ≡ map.empty
  pub level : t.bits ≡ bits
  pub groups : t.limit ≡ limit

abbrev pub routes_code : Coded Routes
routes_code =
    code_by (ℕ × (ℕ × (Members × List (Option ℕ))))
    (coded× coded_ℕ (coded× coded_ℕ (coded× (map.code prefix_code coded_ℕ) (coded_list (coded_option coded_ℕ)))))
    (λ t. (t.bits, (t.limit, (t.members, t.groups))))
    (λ c. record { bits = c.0; limit = c.1.0; members = c.1.1.0; groups = c.1.1.1 })
    (λ _. refl)

-- a route that a table accepts, if there is memory
pub record Accepts (t : Routes) (address depth hop : ℕ) : Type 0 where
  pub within : IsDepth depth
  pub small : hop < 2 ^ 24
  pub groups_fit : groups_of t.bits (with_route t address depth hop) ≤ t.limit

-- the table has that route
abbrev pub HasRoute : Routes → ℕ → ℕ → Type 0
HasRoute t address depth = IsDepth depth × IsSome (map.get t.members (prefix_of address depth))

-- the depth is valid, and the table has no such route
abbrev pub LacksRoute : Routes → ℕ → ℕ → Type 0
LacksRoute t address depth = IsDepth depth × (map.get t.members (prefix_of address depth) ≡ None)
