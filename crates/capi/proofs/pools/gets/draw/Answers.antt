use Rattle.std.proofs.Common.{length, rules}
use Rattle.capi.proofs.PoolCalls.{drawn}
use Rattle.capi.proofs.pools.gets.draw.Goals as goal

pub returns-in-Ok-clause-got : goal.returns-in-Ok-clause-got
returns-in-Ok-clause-got c =
    let reply = c.in-Ok.ensures in
    let dealt = c.deal.ensures in
    drawn c.args.f.now c.args.local.now c.receive.new.local c.deal.new.local (length c.args.into.now) c.args.asked c.in-Ok.field-0
    _ c.receive.new.into c.deal.new.into (search rules) reply.filled reply.same dealt.same dealt.given dealt.cached dealt.own
