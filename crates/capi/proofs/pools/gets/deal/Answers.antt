use Rattle.std.proofs.Common.{◌≡◌, ◌++◌, ◌-◌, ◌∙◌, [], arith, drop, length, rules, subst, sym}
use Rattle.std.proofs.lemmas.Grind.{common_steps}
use Rattle.std.proofs.lemmas.List.{length-drop, take_all}
use Rattle.fabric.specs.Settles.{AreOwnBuffers}
use Rattle.pool_laws.specs.Caches.{cached_after_get, taken_by_get}
use Rattle.pool.specs.Locals.{cache_of, cache_size, view_of}
use Rattle.capi.specs.PoolMembers.{numbers_of}
use Rattle.capi.proofs.Attempts.{same_view}
use Rattle.capi.proofs.Deals.{dealt_own, none_left, rest_fits}
use Rattle.capi.proofs.pools.gets.deal.Goals as goal

pub unreachable-requires-in-Err-put_cached_from_slice :
    goal.unreachable-requires-in-Err-put_cached_from_slice
unreachable-requires-in-Err-put_cached_from_slice c =
    let l = c.args.local.now in
    let k = c.get_cached_into_slice.new.self in
    let taken = c.args.taken.now in
    let got = c.in-Ok.ensures in
    let none : cache_of k ≡ [] = none_left _ (cache_of l) (cache_of k) (search rules) got.exact.2 in
    let missing = length c.split_at_mut-front.result.1.now in
    rest_fits (view_of k) (cache_size k) missing (cache_of l) (cache_of k) taken _ _ _ c.in-Err-put_cached_from_slice.field-0
    (subst (λ v. AreOwnBuffers numbers_of v (taken ++ cache_of l)) (sym (same_view l k got.same.1)) c.requires.own) none
    (omega (arith, c.requires.rest, c.split_at_mut-front.ensures.back_len, c.len.ensures, got.same.0.1))
    (take_all (length taken - missing) (drop missing taken) (omega (arith, length-drop missing taken)))
    c.in-Err-put_cached_from_slice.ensures.exact

pub returns-clause-own : goal.returns-clause-own
returns-clause-own c =
    let l = c.args.local.now in
    let k = c.get_cached_into_slice.new.self in
    let m = c.put_cached_from_slice.new.self in
    let n = length c.args.into.now in
    let taken = c.args.taken.now in
    let same : view_of m ≡ view_of l = same_view k m c.in-Ok-put_cached_from_slice.ensures.same.1 ∙ same_view l k c.in-Ok.ensures.same.1 in
    let got : c.get_cached_into_slice.new.into ++ c.copy_from_slice.new.self ≡ taken_by_get n (cache_of l) taken = search rules in
    let rest : cache_of m ≡ cached_after_get n (cache_of l) taken = grind (arith, common_steps) in
    subst (λ xs. AreOwnBuffers numbers_of (view_of m) xs) (λ i. sym got i ++ sym rest i)
    (dealt_own (view_of m) n (cache_of l) taken
    (subst (λ v. AreOwnBuffers numbers_of v (taken ++ cache_of l)) (sym same) c.requires.own))
