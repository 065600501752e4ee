use Rattle.std.proofs.Common.{◌≡◌, ◌-◌, refl, ◌++◌, Ok, Err, length, ap, sym, subst, arith}
use Rattle.std.proofs.lemmas.List.{length-take-le}
use Rattle.ringcore_laws.specs.FreeRings.{AreSingle}
use Rattle.ringcore_laws.specs.Sound.{occurrences_in}
use Rattle.fabric.specs.Hands.{view}
use Rattle.pool_laws.specs.Requests.{Refills}
use Rattle.pool_laws.specs.Caches.{cached_after_get, taken_by_get}
use Rattle.pool.specs.Stacks.{added, stacked}
use Rattle.ringapi.proofs.Counts.{count_both}
use Rattle.pool_laws.proofs.Counts.{count_get}
use Rattle.pool_laws.proofs.Singles.{single_get}
use Rattle.pool.proofs.Stacks.{served, unserved}
use Rattle.pool.proofs.words.fetch_words.Goals as goal

pub returns-in-Ok-clause-exact : goal.returns-in-Ok-clause-exact
returns-in-Ok-clause-exact g c plan there =
    let n = length c.args.into.now in
    let before = sym (length-take-le c.args.cache.now.count c.args.cache.now.places.items c.args.cache.now.fits) in
    let cache = stacked c.args.cache.now in
    let all = stacked c.refill_stack.new.cache in
    let taken = added cache all in (
      taken,
      subst (λ m. Refills g.T.Tagged.numbers g.row.N c.args.ring plan c.args.size (view c.args.hand) (n - m) (Ok c.in-Ok.hand) taken) before
          (c.in-Ok.ensures.exact plan there),
      (
        served n cache taken all c.requires.short c.refill_stack.ensures.pushed c.args.cache.now.count c.serve.new.into before c.serve.ensures.served,
        unserved n cache taken all c.requires.short c.refill_stack.ensures.pushed (stacked c.serve.new.self) c.serve.ensures.left,
      ),
    )

pub returns-in-Ok-clause-own : goal.returns-in-Ok-clause-own
returns-in-Ok-clause-own g c own =
    let tags = g.T.Tagged.numbers in
    let n = length c.args.into.now in
    let before = sym (length-take-le c.args.cache.now.count c.args.cache.now.places.items c.args.cache.now.fits) in
    let cache = stacked c.args.cache.now in
    let front = stacked c.refill_stack.new.cache in
    let taken = added cache front in
    let later = stacked c.serve.new.self in
    let gives = served n cache taken front c.requires.short c.refill_stack.ensures.pushed c.args.cache.now.count c.serve.new.into before c.serve.ensures.served in
    let keeps = unserved n cache taken front c.requires.short c.refill_stack.ensures.pushed later c.serve.ensures.left in
    let all : c.serve.new.into ++ later ≡ taken_by_get n cache taken ++ cached_after_get n cache taken = λ i. gives i ++ keeps i in (
      (λ b. omega (
        arith,
        ap (λ l. occurrences_in tags b l) all,
        count_both tags b (taken_by_get n cache taken) (cached_after_get n cache taken),
        count_get tags b n cache taken,
        c.in-Ok.ensures.more b,
        own.0 b,
      )),
      subst (AreSingle tags) (sym all) (single_get tags n cache taken own.1 c.in-Ok.ensures.single),
    )

pub returns-in-Err-clause-exact : goal.returns-in-Err-clause-exact
returns-in-Err-clause-exact g c plan there =
    let cache = stacked c.args.cache.now in
    let all = stacked c.refill_stack.new.cache in
    let before = sym (length-take-le c.args.cache.now.count c.args.cache.now.places.items c.args.cache.now.fits) in
    let n = length c.args.into.now in (
      added cache all,
      subst (λ m. Refills g.T.Tagged.numbers g.row.N c.args.ring plan c.args.size (view c.args.hand) (n - m) (Err c.in-Err.refused) (added cache all))
          before
          (c.in-Err.ensures.exact plan there),
      (refl, c.in-Err.ensures.back.1),
    )
