-- Members between two prefixes, by address and then by depth.
use Rattle.std.specs.Prelude.{◌≡◌, ℕ, Some, None}
use Rattle.std.specs.FinMap as map
use Rattle.std.specs.BTreeMap.Range.{IsLeBy}
use Rattle.lpm.specs.declared.prefix.Prefix.{Prefix}
use Rattle.lpm.specs.Prefixes.{Members, prefix_cmp}

-- p is at least the first prefix and at most the second
abbrev pub IsBetween : Prefix → Prefix → Prefix → Type 0
IsBetween low high p = IsLeBy prefix_cmp low p × IsLeBy prefix_cmp p high

-- some member is between the two
abbrev pub SomeBetween : Members → Prefix → Prefix → Type 0
SomeBetween m low high = (p : Prefix) × (hop : ℕ) × IsBetween low high p × (map.get m p ≡ Some hop)

-- none is
abbrev pub NoneBetween : Members → Prefix → Prefix → Type 0
NoneBetween m low high = (p : Prefix) → IsBetween low high p → map.get m p ≡ None
