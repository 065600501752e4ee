use Rattle.std.proofs.Common.{◌≡◌, ◌<◌, refl, rules}
use Rattle.capi.proofs.EndCalls.{advanced_take}
use Rattle.capi.proofs.rings.end_calls.take_next.Goals as goal

pub returns : goal.returns
returns c =
    let m = c.args.member.now in
    let r = c.args.reserved in
    let at : r.ring ≡ m.ends.take.at.index = search rules in
    let more : 1 < r.range.count = search rules in
    advanced_take _ _ _ m _ r _ c.requires.held at more (c.withdraw_next.ensures.fabric, refl) c.withdraw_next.ensures.next
