use Rattle.std.proofs.Common.{◌++◌, IfOk, length, rules, subst}
use Rattle.fabric.specs.Settles.{AreOwnBuffers}
use Rattle.pool_laws.specs.Calls.{GetsCached}
use Rattle.pool.specs.Locals.{cache_of, view_of}
use Rattle.pool.specs.Slices.{filled}
use Rattle.pool.proofs.Filled.{gets_filled, own_filled}
use Rattle.pool.proofs.slices.Local+T+N+S+WordStack+T.get_cached_into_slice.Goals as goal

pub returns-clause-exact : goal.returns-clause-exact
returns-clause-exact g c =
    let into = c.args.into.now in
    let call = c.get_from_cache in
    subst (λ w. GetsCached (length into) (cache_of c.args.self.now) call.result (filled call.result w) (cache_of call.new.self)) (search rules)
    (gets_filled _ call.result call.new.into.count (cache_of c.args.self.now) (cache_of call.new.self) call.new.into.words.now into call.ensures.beside call.ensures.exact)

pub returns-clause-own : goal.returns-clause-own
returns-clause-own g c =
    let into = c.args.into.now in
    let call = c.get_from_cache in
    let own : IfOk call.result (λ _. AreOwnBuffers g.T.Tagged.numbers (view_of call.new.self) (call.new.into.words.now ++ cache_of call.new.self)) =
    own_filled _ g.T.Tagged.numbers (view_of call.new.self) call.result call.new.into.count (cache_of c.args.self.now) (cache_of call.new.self)
    call.new.into.words.now into call.ensures.beside call.ensures.exact call.ensures.own in
    search (rules, own)
