-- What a first-level entry shows.
use Rattle.std.specs.Prelude.{ℕ, Option, Some, None}
use Rattle.lpm.specs.declared.entry.Entry.{Entry}
use Rattle.lpm.specs.declared.entry.Entry.TheVariants as shown

-- the group that it shows, if it shows one
abbrev pub group_in : Entry → Option ℕ
group_in (shown.Group group) = Some group
group_in (shown.Hop hop) = None
group_in shown.None = None

-- the hop that it shows, if it shows one
abbrev pub hop_in : Entry → Option ℕ
hop_in (shown.Group group) = None
hop_in (shown.Hop hop) = Some hop
hop_in shown.None = None
