use Rattle.std.proofs.Common.{◌≡◌, ◌<◌, refl, rules}
use Rattle.capi.proofs.EndCalls.{advanced_put}
use Rattle.capi.proofs.rings.end_calls.put_more.Goals as goal

pub returns-clause-done : goal.returns-clause-done
returns-clause-done c =
    let m = c.args.member.now in
    let r = c.args.reserved in
    let at : r.ring ≡ m.ends.put.at.index = search rules in
    let more : 1 < r.range.count = search rules in
    let rest = c.publish_next.ensures.rest in
    advanced_put _ _ m _ r rest.0 _ c.requires.open at more (c.publish_next.ensures.fabric, refl) rest.1 rest.2 c.publish_next.ensures.count
