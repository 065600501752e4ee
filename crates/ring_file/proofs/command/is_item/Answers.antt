use Rattle.std.proofs.Common.{◌≡◌, ◌&&◌, ap, ◌∙◌, sym, rules, tests}
use Rattle.std.specs.List.{list_all}
use Rattle.std.proofs.lemmas.Iterator.{YieldsList-from_slice}
use Rattle.std.proofs.lemmas.Iterator.Search.{all_from_yields_List}
use Rattle.ring_file.specs.Commands.{is_graphic}
use Rattle.ring_file.proofs.command.is_item.Goals as goal

pub returns-then-sized : goal.returns-then-sized
returns-then-sized c =
    let all : c.all-graphic.result ≡ list_all is_graphic c.args.word.now =
    all_from_yields_List is_graphic _ _ c.all-graphic.result c.all-graphic.ensures.ran (YieldsList-from_slice c.args.word.now c.iter.ensures.rest)
    (λ x b q k. search (rules, tests)) in
    all ∙ ap (λ b. b && list_all is_graphic c.args.word.now) (sym c.if-sized.true ∙ c.len_is_1_to-sized.ensures)
