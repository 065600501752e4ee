-- Which first-level entries need a group: those whose first bits are also those of a member deeper than the first
-- level.
use Rattle.std.specs.Prelude.{◌≡◌, ℕ, ◌<◌, Bool, List, Some, map, nat_lt}
use Rattle.std.specs.List.{filter}
use Rattle.std.specs.Ordering.{nat_cmp}
use Rattle.std.specs.FinMap as fin_map
use Rattle.std.specs.FinSet as fin_set
use Rattle.lpm.specs.declared.prefix.Prefix.{Prefix}
use Rattle.lpm.specs.Prefixes.{Members, first_bits}

-- some member deeper than the first level has these first bits
pub record HasDeeper (bits : ℕ) (m : Members) (first : ℕ) : Type 0 where
  pub prefix : Prefix
  pub hop : ℕ
  pub member : fin_map.get m prefix ≡ Some hop
  pub deeper : bits < prefix.depth
  pub among : first_bits prefix.address bits ≡ first

-- the first bits of the prefixes deeper than the first level
abbrev pub firsts_of : ℕ → List Prefix → List ℕ
firsts_of bits prefixes = map (λ p. first_bits p.address bits) (filter (λ p. nat_lt bits p.depth) prefixes)

-- the first bits of the members deeper than the first level
unfoldable pub deeper_firsts : ℕ → Members → fin_set.FinSet nat_cmp
deeper_firsts bits m = fin_set.from_list (firsts_of bits (fin_map.keys m))

-- the same as a test: whether a member deeper than the first level has these first bits
abbrev pub has_deeper : ℕ → Members → ℕ → Bool
has_deeper bits m first = fin_set.contains (deeper_firsts bits m) first

-- how many groups the members need
abbrev pub groups_of : ℕ → Members → ℕ
groups_of bits m = fin_set.len (deeper_firsts bits m)
