use Rattle.std.proofs.Common.{subst}
use Rattle.capi.specs.EndCalls.{PutsNext}
use Rattle.capi.specs.declared.rings.end.Ends.{Ends}
use Rattle.capi.proofs.EndCalls.{first_put}
use Rattle.capi.proofs.rings.end_calls.put_first.Goals as goal

pub returns-in-Ok : goal.returns-in-Ok
returns-in-Ok c =
    let m = c.args.member.now in
    let mid = c.reserve_puts.new.member in
    let next = subst (λ (e : Ends). PutsNext e.put.at.index c.args.word mid.port.hand.span mid c.put_next.new.member c.put_next.result) c.reserve_puts.ensures.ends
    c.put_next.ensures in
    first_put _ _ m _ mid _ _ _ c.requires.idle c.in-Ok.ensures.opened next
