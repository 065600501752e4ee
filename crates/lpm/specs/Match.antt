-- Longest match (RFC 1519, section 4.4; RFC 4632, section 5.1; Longest Prefix Match Library chapter of DPDK's guide).
use Rattle.std.specs.Prelude.{◌≡◌, ℕ, suc, zero, ◌≤◌, Option, Some, None}
use Rattle.std.specs.FinMap as map
use Rattle.lpm.specs.TableEntry.{TableEntry, entry_of, hop_of}
use Rattle.lpm.specs.Prefixes.{Members, IsDepth, prefix_of}

-- a member of this depth covers the address, and this is its hop
pub record Holds (m : Members) (address depth hop : ℕ) : Type 0 where
  pub within : IsDepth depth
  pub member : map.get m (prefix_of address depth) ≡ Some hop

-- the result is the hop of a member that covers the address, if no deeper one does, and none if no member does
abbrev pub IsLongestMatch : Members → ℕ → Option ℕ → Type 0
IsLongestMatch m address None = (depth hop : ℕ) → ¬ Holds m address depth hop
IsLongestMatch m address (Some hop) =
    (depth : ℕ) × Holds m address depth hop × ((d h : ℕ) → Holds m address d h → d ≤ depth)

-- the hop with its depth if there is one, otherwise the other entry
abbrev pub entry_or : Option ℕ → ℕ → TableEntry → TableEntry
entry_or None depth other = other
entry_or (Some hop) depth other = entry_of depth hop

-- the longest member of at most this depth that covers the address
unfoldable pub longest : Members → ℕ → ℕ → TableEntry
longest m address zero = entry_of 0 0
longest m address (suc depth) =
    entry_or (map.get m (prefix_of address (suc depth))) (suc depth) (longest m address depth)

-- the only result for which `IsLongestMatch` holds
abbrev pub lookup_in : Members → ℕ → Option ℕ
lookup_in m address = hop_of (longest m address 32)
