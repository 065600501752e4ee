-- Prefixes of IPv4 addresses (RFC 4632, section 3.1), and the finite maps from prefixes to next hops.
use Rattle.std.specs.Prelude.{◌≡◌, ℕ, ◌-◌, ◌*◌, ◌/◌, ◌^◌, ◌≤◌, ◌<◌, Some, refl}
use Rattle.std.specs.Ordering.{nat_cmp, on, then_cmp}
use Rattle.std.specs.declared.cmp.Ordering.{Ordering}
use Rattle.std.specs.FinMap as map
use Rattle.std.specs.Coded.{Coded, code_by, coded×, coded_ℕ}
use Rattle.lpm.specs.declared.prefix.Prefix.{Prefix}

-- the depths of prefixes
abbrev pub IsDepth : ℕ → Type 0
IsDepth depth = (0 < depth) × (depth ≤ 32)

-- how many addresses have the same first `depth` bits
abbrev pub size_of : ℕ → ℕ
size_of depth = 2 ^ (32 - depth)

-- the number formed by an address's first `depth` bits
abbrev pub first_bits : ℕ → ℕ → ℕ
first_bits address depth = address / size_of depth

-- the address with every bit after the first `depth` cleared
abbrev pub masked : ℕ → ℕ → ℕ
masked address depth = first_bits address depth * size_of depth

-- the prefix of that depth that covers the address
abbrev pub prefix_of : ℕ → ℕ → Prefix
prefix_of address depth = record { address = masked address depth; depth = depth }

-- by address, and then by depth
abbrev pub prefix_cmp : Prefix → Prefix → Ordering
prefix_cmp = then_cmp (on (λ p. p.address) nat_cmp) (on (λ p. p.depth) nat_cmp)

abbrev pub prefix_code : Coded Prefix
prefix_code =
    code_by (ℕ × ℕ) (coded× coded_ℕ coded_ℕ) (λ p. (p.address, p.depth))
    (λ c. record { address = c.0; depth = c.1 }) (λ _. refl)

-- the members of a table, each a prefix with its next hop
abbrev pub Members : Type 0
Members = map.FinMap prefix_cmp ℕ

-- the members that a table may have: a prefix of 1 to 32 bits, masked, and a hop of 24 bits
pub record IsMember (prefix : Prefix) (hop : ℕ) : Type 0 where
  pub within : IsDepth prefix.depth
  pub cleared : masked prefix.address prefix.depth ≡ prefix.address
  pub short : prefix.address < 2 ^ 32
  pub small : hop < 2 ^ 24

abbrev pub AreMembers : Members → Type 0
AreMembers m = (prefix : Prefix) (hop : ℕ) → map.get m prefix ≡ Some hop → IsMember prefix hop
