use Rattle.std.proofs.Common.{◌≡◌, ◌++◌, ◌∷◌, [], sym, ap, ◌∙◌, Some, rules}
use Rattle.settings.specs.Texts.{number_to}
use Rattle.settings.proofs.EachOf.{each_of_more, each_of_none}
use Rattle.settings.proofs.texts.numbers.Goals as goal

pub returns-in-None : goal.returns-in-None
returns-in-None c =
    sym (each_of_none (number_to 255) (λ part. part.now) c.args.parts.now c.loop-part.part-index _ c.loop-part-test.true
    (sym c.number_to.ensures.value ∙ c.in-None.is))

pub loop-part-preserved : goal.loop-part-preserved
loop-part-preserved c =
    let longer : c.push.new.self.items ≡ c.loop-part.octets.items ++ c.in-Some.octet ∷ [] = search rules in
    each_of_more (number_to 255) (λ part. part.now) c.args.parts.now c.loop-part.part-index _ c.loop-part.octets.items c.in-Some.octet c.loop-part-test.true
    c.loop-part.invariant (sym c.number_to.ensures.value ∙ c.in-Some.is)
    ∙ ap Some (sym longer)
