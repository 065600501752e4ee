use Rattle.std.proofs.Common.{◌≡◌, ◌&&◌, ap, ◌∙◌, sym, rules, tests}
use Rattle.std.specs.List.{list_all}
use Rattle.std.proofs.lemmas.Iterator.{YieldsList-from_slice}
use Rattle.std.proofs.lemmas.Iterator.Search.{all_from_yields_List}
use Rattle.command_file.specs.Text.{is_digit}
use Rattle.command_file.proofs.number.is_digits.Goals as goal

pub returns-then-sized : goal.returns-then-sized
returns-then-sized c =
    let all : c.all-digits.result ≡ list_all is_digit c.args.word.now =
    all_from_yields_List is_digit _ _ c.all-digits.result c.all-digits.ensures.ran (YieldsList-from_slice c.args.word.now c.iter.ensures.rest)
    (λ x b q k. search (rules, tests)) in
    all ∙ ap (λ b. b && list_all is_digit c.args.word.now) (sym c.if-sized.true ∙ c.len_is_1_to-sized.ensures)
