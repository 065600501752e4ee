use Rattle.std.proofs.Common.{◌<◌, ap, length, subst, sym, ◌∙◌}
use Rattle.std.proofs.lemmas.List.{length-reverse}
use Rattle.burst.proofs.Items.{first_off, none_left}
use Rattle.burst.proofs.burst.Burst.pop_front.Goals as goal

pub returns-clause-items : goal.returns-clause-items
returns-clause-items g c =
    first_off c.args.self.now c.reverse.new.self c.pop-item.new.self c.reverse-2.new.self c.pop-item.result c.reverse.ensures c.pop-item.ensures.items
    c.reverse-2.ensures

pub returns-clause-variant : goal.returns-clause-variant
returns-clause-variant g c =
    let same = ap length c.reverse.ensures ∙ length-reverse c.args.self.now in
    let v = c.pop-item.ensures.variant in
    (λ some. subst (λ n. 0 < n) same (v.0 some), λ there. v.1 (subst (λ n. 0 < n) (sym same) there))

pub returns-clause-empty : goal.returns-clause-empty
returns-clause-empty g c = none_left c.pop-item.new.self c.reverse-2.new.self c.pop-item.result c.pop-item.ensures.empty c.reverse-2.ensures
