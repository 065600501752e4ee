-- What has been counted so far.
use Rattle.std.specs.Prelude.{◌≡◌, ℕ, List, take, Option, Some}
use Rattle.counters.specs.Counted.{counts_of}
use Rattle.counters.specs.Tally.{Tally}
use Rattle.stages_laws.specs.Input.{Input}
use Rattle.stages_laws.specs.Output.{Forwarding, Fate, fates, verdicts}
use Rattle.std.specs.Option.{option_map}

-- what becomes of the records of an input, if they are known
abbrev pub fates_of : Forwarding → ℕ → Option Input → Option (List Fate)
fates_of forwarding room input = option_map (λ i. fates forwarding room i.packets) input

-- the counts are those of the first fates
abbrev pub IsTally : Option (List Fate) → ℕ → ℕ → Tally → Type 0
IsTally outs ports next tally =
    (all : List Fate) → outs ≡ Some all → tally ≡ counts_of ports 0 (verdicts (take next all))
