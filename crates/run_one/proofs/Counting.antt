-- One more packet is counted, and the shares of a run are gathered.
use Rattle.std.proofs.Common.{◌≡◌, ℕ, ◌+◌, List, [], ◌∷◌, ◌++◌, take, Option, Some, slice_get, refl, sym, ap, ◌∙◌, append-nil, zero-add}
use Rattle.std.proofs.lemmas.List.{map-append}
use Rattle.counters.specs.Counted.{counts_of, IsWithin}
use Rattle.counters.specs.Tally.{Tally, plus}
use Rattle.counters.proofs.Counting.{counts_of-append}
use Rattle.ipv4.specs.declared.Verdict.{Verdict}
use Rattle.stages_laws.specs.Output.{Fate, verdicts}
use Rattle.ipv4.specs.declared.verdicts.Verdict.TheVariants.{Send, Drop}
use Rattle.run_one.specs.Packets.{HasPort}
use Rattle.run_one.specs.Tallies.{IsTally}
use Rattle.run_one.proofs.Windows.{take_one_more}

pub tally_turn : (outs : Option (List Fate)) (ports n : ℕ) (o : Fate) (old new : Tally) → ((all : List Fate) → outs ≡ Some all → slice_get all n ≡ Some o)
    → IsTally outs ports n old → ((oversize : ℕ) (vs : List Verdict) → old ≡ counts_of ports oversize vs → new ≡ counts_of ports oversize
    (vs ++ o.verdict ∷ []))
    → IsTally outs ports (n + 1) new
tally_turn outs ports n o old new at was counted all known =
    counted 0 (verdicts (take n all)) (was all known)
    ∙ ap (counts_of ports 0) (sym (map-append (λ (p : Fate). p.verdict) (take n all) (o ∷ [])) ∙ ap verdicts (take_one_more all n o (at all known)))

-- the two shares of a run add up to the counts of the whole
pub gathered_shares : (ports : ℕ) (vs : List Verdict) (n : ℕ) → plus (counts_of ports 0 vs) (counts_of ports n []) ≡ counts_of ports n vs
gathered_shares ports vs n = counts_of-append ports 0 n vs [] ∙ (λ k. counts_of ports (zero-add n k) (append-nil vs k))

pub within : (ports : ℕ) (verdict : Verdict) → HasPort ports verdict → IsWithin ports verdict
within ports (Send port tagged) has = has port tagged refl
within ports (Drop reason) has = tt
