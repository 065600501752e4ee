use Rattle.std.proofs.Common.{◌≡◌, ◌++◌, [], ◌∷◌, filter, take, ap, ◌∙◌, rules, tests}
use Rattle.std.specs.List.{slice_split}
use Rattle.std.proofs.Math.Seq.{take-length}
use Rattle.std.proofs.lemmas.Iterator.Consumers.{YieldsList-turn, YieldsList-end}
use Rattle.std.proofs.lemmas.Iterator.Splits.{YieldsList-from_slice_split}
use Rattle.command_file.specs.Text.{is_blank}
use Rattle.command_file.proofs.Parts.{is_word, kept, passed}
use Rattle.command_file.proofs.words.split_words.Goals as goal

pub loop-part-preserved-in-Continue-1 : goal.loop-part-preserved-in-Continue-1
loop-part-preserved-in-Continue-1 c =
    let road = YieldsList-from_slice_split _ is_blank c.args.line.now (search rules) (search rules) (search rules) (λ x b q k. search (rules, tests)) in
    let turn = YieldsList-turn road c.loop-part.yielded _ c.loop-part.yielded_by _ _ c.in-Some.part c.in-Some.is c.next.ensures.steps in
    let pushed : c.push.new.self.items ≡ c.loop-part.words.items ++ c.in-Some.part ∷ [] = search rules in
    kept (slice_split is_blank c.args.line.now) c.loop-part.words.items c.push.new.self.items c.loop-part.yielded c.in-Some.part turn
    c.loop-part.invariant (search rules) pushed

pub loop-part-preserved : goal.loop-part-preserved
loop-part-preserved c =
    let road = YieldsList-from_slice_split _ is_blank c.args.line.now (search rules) (search rules) (search rules) (λ x b q k. search (rules, tests)) in
    let turn = YieldsList-turn road c.loop-part.yielded _ c.loop-part.yielded_by _ _ c.in-Some.part c.in-Some.is c.next.ensures.steps in
    passed (slice_split is_blank c.args.line.now) c.loop-part.words.items c.loop-part.yielded c.in-Some.part turn
    c.loop-part.invariant (search rules)

pub returns : goal.returns
returns c =
    let parts = slice_split is_blank c.args.line.now in
    let road = YieldsList-from_slice_split _ is_blank c.args.line.now (search rules) (search rules) (search rules) (λ x b q k. search (rules, tests)) in
    let end = YieldsList-end road c.loop-part.yielded _ c.loop-part.yielded_by _ _ c.in-None.is c.next.ensures.steps in
    c.loop-part.invariant ∙ ap (λ k. filter is_word (take k parts)) end.1 ∙ ap (filter is_word) (take-length parts)
