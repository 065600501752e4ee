use Rattle.std.proofs.Common.{◌∙◌, sym, rules, tests, List, ℕ, Bor}
use Rattle.std.proofs.lemmas.Iterator.{YieldsList-from_slice}
use Rattle.std.proofs.lemmas.Iterator.Search.{all_from_yields_List}
use Rattle.std.proofs.lemmas.List.Folds.{list_all-map}
use Rattle.ring_file.specs.Commands.{is_item}
use Rattle.ring_file.proofs.command.are_items.Goals as goal

pub returns : goal.returns
returns c =
    all_from_yields_List (λ (word : Bor (List ℕ)). is_item word.now) _ _ c.all.result c.all.ensures.ran
    (YieldsList-from_slice c.args.words.now c.iter.ensures.rest) (λ x b q k. search (rules, tests))
    ∙ sym (list_all-map is_item (λ word. word.now) c.args.words.now)
