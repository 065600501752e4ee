use Rattle.capi.proofs.PoolCalls.{gets_later}
use Rattle.capi.proofs.pools.gets.get_more.Goals as goal

pub returns-clause-exact : goal.returns-clause-exact
returns-clause-exact c =
    let first = c.in-Err-NoRoom.ensures.back in
    gets_later c.args.f.now c.args.local.now c.draw.new.local c.get_missing.new.local first.1 c.args.into.now c.draw.new.into c.get_missing.new.into
    c.get_missing.result first.0 c.requires.short c.get_missing.ensures.exact
