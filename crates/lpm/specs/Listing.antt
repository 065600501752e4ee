-- The members in the order of their prefixes: by address, and then by depth.
use Rattle.std.specs.Prelude.{◌≡◌, ℕ, Some, None, IsSome}
use Rattle.std.specs.FinMap as map
use Rattle.std.specs.BTreeMap.Range.{IsLeBy}
use Rattle.lpm.specs.declared.prefix.Prefix.{Prefix}
use Rattle.lpm.specs.Prefixes.{Members, prefix_cmp}

-- of the members that are not before `low`, this is the first
pub record IsFirstFrom (m : Members) (low prefix : Prefix) (hop : ℕ) : Type 0 where
  pub member : map.get m prefix ≡ Some hop
  pub from : IsLeBy prefix_cmp low prefix
  pub first : (other : Prefix) → IsLeBy prefix_cmp low other → IsSome (map.get m other) → IsLeBy prefix_cmp prefix other

-- every member is before `low`
abbrev pub NoneFrom : Members → Prefix → Type 0
NoneFrom m low = (other : Prefix) → IsLeBy prefix_cmp low other → map.get m other ≡ None
