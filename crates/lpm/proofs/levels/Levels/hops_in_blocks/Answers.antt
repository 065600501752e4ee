use Rattle.std.proofs.Common.{ℕ, Option, None, List, length, get_or, map, sym, ap, ◌∙◌, arith}
use Rattle.std.proofs.lemmas.List.{same_lists, get_or-map, get_or_default, length-map}
use Rattle.lpm.specs.TableEntry.{TableEntry, entry_of, hop_of}
use Rattle.lpm.specs.TwoLevels.{entry_for, first_at}
use Rattle.lpm.proofs.levels.Levels.hops_in_blocks.Goals as goal

pub returns : goal.returns
returns g c =
    let addresses = c.args.addresses.now in
    let hops = c.loop-i.hops in
    let hop : ℕ → Option ℕ = λ address. hop_of (entry_for c.args.self.now address) in
    same_lists hops (map hop addresses) (omega (arith, length-map addresses hop))
    (λ k d within.
    get_or_default hops k d None within ∙ c.loop-i.invariant k (omega arith)
    ∙ sym (get_or-map hop addresses k 0 d (omega arith)))

pub entry_at-entry-requires-clause-there : goal.entry_at-entry-requires-clause-there
entry_at-entry-requires-clause-there g c = omega (arith, ap length c.requires.entries, c.requires.all, c.first_of.ensures.below)

pub entry_below-requires-clause-entry : goal.entry_below-requires-clause-entry
entry_below-requires-clause-entry g c =
    c.entry_at-entry.ensures
    ∙ ap (λ (es : List TableEntry). get_or es c.first_of.result (entry_of 0 0)) c.requires.entries
    ∙ ap (first_at c.args.self.now) c.first_of.ensures.value
