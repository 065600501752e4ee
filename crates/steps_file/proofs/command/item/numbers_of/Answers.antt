use Rattle.std.proofs.Common.{◌≡◌, ◌++◌, ◌∷◌, [], sym, ap, ◌∙◌, Some, rules}
use Rattle.command_file.specs.Text.{number_of}
use Rattle.steps_file.proofs.EachWord.{each_of_more, each_of_none}
use Rattle.steps_file.proofs.command.item.numbers_of.Goals as goal

pub returns-in-None : goal.returns-in-None
returns-in-None c =
    sym (each_of_none number_of c.args.words.now c.loop-word.word-index _ c.loop-word-test.true (sym c.number_of.ensures ∙ c.in-None.is))

pub loop-word-preserved : goal.loop-word-preserved
loop-word-preserved c =
    let longer : c.push.new.self.items ≡ c.loop-word.numbers.items ++ c.in-Some.n ∷ [] = search rules in
    each_of_more number_of c.args.words.now c.loop-word.word-index _ c.loop-word.numbers.items c.in-Some.n c.loop-word-test.true
    c.loop-word.invariant (sym c.number_of.ensures ∙ c.in-Some.is)
    ∙ ap Some (sym longer)
