-- What a reader knows of the input at its end.
use Rattle.std.specs.Prelude.{◌≡◌, ℕ, [], Bool, length, Option, Some}
use Rattle.counters.specs.Counted.{counts_of}
use Rattle.counters.specs.Tally.{Tally}
use Rattle.pcapio_laws.specs.Capture.{end_of}
use Rattle.stages_laws.specs.Input.{Input}
use Rattle.stages_laws.specs.Output.{stamped, oversize}

-- this is the number of numbered records
abbrev pub IsCount : Option Input → ℕ → ℕ → Type 0
IsCount input room count = (i : Input) → input ≡ Some i → count ≡ length (stamped room i.packets)

-- the counts are those of the oversize records
abbrev pub AreOversize : Option Input → ℕ → ℕ → Tally → Type 0
AreOversize input room ports counts = (i : Input) → input ≡ Some i → counts ≡ counts_of ports (oversize room i.packets) []

-- this is how the input ends after its last record
abbrev pub HasEnd : Option Input → Bool → Type 0
HasEnd input torn = (i : Input) → input ≡ Some i → i.ending ≡ end_of torn
