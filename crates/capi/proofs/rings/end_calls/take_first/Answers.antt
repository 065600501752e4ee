use Rattle.std.proofs.Common.{◌≡◌, Ok, rules, subst}
use Rattle.geom.specs.declared.plan.How.TheVariants.{Burst}
use Rattle.capi.specs.EndCalls.{TakesNextWord}
use Rattle.capi.specs.Holding.{HoldsTake}
use Rattle.capi.specs.declared.rings.end.Ends.{Ends}
use Rattle.capi.proofs.EndCalls.{first_take}
use Rattle.capi.proofs.rings.end_calls.take_first.Goals as goal

pub returns-in-Held : goal.returns-in-Held
returns-in-Held c =
    let m = c.args.member.now in
    let mid = c.hold_take.new.member in
    let opened : HoldsTake m.ends.take.at.index Burst c.args.most m mid (Ok c.in-Ok.field-0) = search rules in
    let ends : mid.ends ≡ m.ends = search rules in
    let next = subst (λ (e : Ends). TakesNextWord e.take.at.index c.args.words.now c.take_next.new.words mid.port.hand.span mid c.take_next.new.member c.take_next.result)
    ends c.take_next.ensures in
    first_take _ _ _ m _ mid _ _ _ c.requires.idle opened next
