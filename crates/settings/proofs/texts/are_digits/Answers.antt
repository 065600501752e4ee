use Rattle.std.proofs.Common.{rules, tests}
use Rattle.std.proofs.lemmas.Iterator.{YieldsList-from_slice}
use Rattle.std.proofs.lemmas.Iterator.Search.{all_from_yields_List}
use Rattle.settings.specs.Texts.{is_digit}
use Rattle.settings.proofs.texts.are_digits.Goals as goal

pub returns : goal.returns
returns c =
    all_from_yields_List is_digit _ _ c.all.result c.all.ensures.ran (YieldsList-from_slice c.args.part.now c.iter.ensures.rest)
    (λ x b q k. search (rules, tests))
