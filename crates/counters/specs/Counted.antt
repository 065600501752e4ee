-- The counts of a list of verdicts.
use Rattle.std.specs.Prelude.{ℕ, zero, suc, ◌+◌, ◌<◌, ◌==◌, Bool, false, List, [], ◌∷◌, count_by}
use Rattle.ipv4.specs.declared.Verdict.{Verdict}
use Rattle.ipv4.specs.declared.Verdict.TheVariants.{Send, Drop}
use Rattle.ipv4.specs.Reasons.{number_of}
use Rattle.counters.specs.Tally.{Tally}

-- the verdict sends through that port
abbrev pub is_sent_by : ℕ → Verdict → Bool
is_sent_by port (Send p tagged) = p == port
is_sent_by port (Drop reason) = false

-- the verdict drops for the reason with that number
abbrev pub is_dropped_for : ℕ → Verdict → Bool
is_dropped_for number (Send p tagged) = false
is_dropped_for number (Drop reason) = number_of reason == number

-- the verdict sends a frame with a tag
abbrev pub is_tagged : Verdict → Bool
is_tagged (Send p tagged) = tagged
is_tagged (Drop reason) = false

-- the counts of n kinds, from one kind on
abbrev pub of_kinds : (ℕ → Verdict → Bool) → ℕ → ℕ → List Verdict → List ℕ
of_kinds is_of first zero verdicts = []
of_kinds is_of first (suc n) verdicts = count_by (is_of first) verdicts ∷ of_kinds is_of (first + 1) n verdicts

-- the counts of verdicts and of this many oversize records, with this many ports
abbrev pub counts_of : ℕ → ℕ → List Verdict → Tally
counts_of ports oversize verdicts = record {
  oversize = oversize;
  sent = of_kinds is_sent_by 0 ports verdicts;
  dropped = of_kinds is_dropped_for 1 7 verdicts;
  tagged = count_by is_tagged verdicts;
}

-- the port of the verdict is below this number, if it sends
abbrev pub IsWithin : ℕ → Verdict → Type 0
IsWithin ports (Send p tagged) = p < ports
IsWithin ports (Drop reason) = Unit {0}
