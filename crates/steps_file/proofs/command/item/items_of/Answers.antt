use Rattle.std.proofs.Common.{◌≡◌, ◌++◌, ◌∷◌, [], sym, ap, ◌∙◌, Some, rules}
use Rattle.steps_file.specs.Forms.{item_of}
use Rattle.steps_file.proofs.EachWord.{each_of_more, each_of_none}
use Rattle.steps_file.proofs.command.item.items_of.Goals as goal

pub returns-in-None : goal.returns-in-None
returns-in-None c =
    sym (each_of_none item_of c.args.words.now c.loop-word.word-index _ c.loop-word-test.true (sym c.in_ok-item.ensures ∙ c.in-None.is))

pub loop-word-preserved : goal.loop-word-preserved
loop-word-preserved c =
    let longer : c.push.new.self.items ≡ c.loop-word.items.items ++ c.in-Some.item ∷ [] = search rules in
    each_of_more item_of c.args.words.now c.loop-word.word-index _ c.loop-word.items.items c.in-Some.item c.loop-word-test.true
    c.loop-word.invariant (sym c.in_ok-item.ensures ∙ c.in-Some.is)
    ∙ ap Some (sym longer)
