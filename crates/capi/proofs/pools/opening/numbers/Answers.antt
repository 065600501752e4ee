use Rattle.std.proofs.Common.{◌≡◌, ◌++◌, ◌∷◌, ◌∙◌, [], ap, arith, rules, sym}
use Rattle.std.proofs.lemmas.List.FromFn.{map-range_with_len_more}
use Rattle.capi.specs.declared.pools.member.Number.{Number}
use Rattle.capi.proofs.pools.opening.numbers.Goals as goal

pub loop-value-preserved : goal.loop-value-preserved
loop-value-preserved c =
    let i = c.loop-value.value in
    let number : Number = record { value = i } in
    let pushed : c.push.new.self.items ≡ c.loop-value.made.items ++ number ∷ [] = search rules in
    pushed ∙ (ap (λ l. l ++ number ∷ []) c.loop-value.invariant
    ∙ sym (map-range_with_len_more (λ k. record { value = k }) 0 i i (omega arith)))
