-- The counts in a value.
use Rattle.std.specs.Prelude.{◌≤◌, take}
use Rattle.counters.specs.declared.counts.Counts.TheInside.{Inside}
use Rattle.counters.specs.Tally.{Tally, IsTally}

-- from the row of counts for each port, those of the existing ports
abbrev pub tally_in : Inside → Tally
tally_in c = record { oversize = c.oversize; sent = take c.ports c.sent; dropped = c.dropped; tagged = c.tagged }

pub record IsKept (c : Inside) : Type 0 where
  pub ports : c.ports ≤ 16
  pub tally : IsTally (tally_in c)
