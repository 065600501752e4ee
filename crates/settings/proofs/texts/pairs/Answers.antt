use Rattle.std.proofs.Common.{◌≡◌, ◌++◌, ◌∷◌, [], sym, ap, ◌∙◌, Some, rules}
use Rattle.settings.specs.Texts.{pair_of}
use Rattle.settings.proofs.EachOf.{each_of_more, each_of_none}
use Rattle.settings.proofs.texts.pairs.Goals as goal

pub returns-in-None : goal.returns-in-None
returns-in-None c =
    sym (each_of_none pair_of (λ part. part.now) c.args.parts.now c.loop-part.part-index _ c.loop-part-test.true (sym c.pair.ensures ∙ c.in-None.is))

pub loop-part-preserved : goal.loop-part-preserved
loop-part-preserved c =
    let longer : c.push.new.self.items ≡ c.loop-part.octets.items ++ c.in-Some.octet ∷ [] = search rules in
    each_of_more pair_of (λ part. part.now) c.args.parts.now c.loop-part.part-index _ c.loop-part.octets.items c.in-Some.octet c.loop-part-test.true
    c.loop-part.invariant (sym c.pair.ensures ∙ c.in-Some.is)
    ∙ ap Some (sym longer)
